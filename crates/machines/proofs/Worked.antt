-- The machine of "no two misses in a row": it is canonical for what it walks, so the definitions can be met. Assumes nothing.
use mathlib.Core.Path.{◌≡◌, refl}
use mathlib.Core.Option.{Option, none, some}
use mathlib.Core.Bool.{Bool, true, false}
use mathlib.Core.List.{[], ◌∷◌}
use Prim.Native.Nat.{ℕ, zero, suc, ◌≤◌, ◌<◌}
use native.Mathlib.Omega.{arith}
use Rattle.machines.specs.Machine.{Machine, WellMade, Walks}
use Rattle.machines.specs.Same.{Same}
use Rattle.machines.specs.Canonical.{Canonical}
use Rattle.machines.specs.Numbering.{NumberedAtSight, FirstSeen, StandsFor}
use Rattle.machines.proofs.Walk.{can_blocked}
use Rattle.machines.proofs.Rounds.{same_refl}
use Rattle.machines.proofs.Standing.{canonical_by_sight}

abbrev step : ℕ → Bool → Option ℕ
step s true = some 0
step zero false = some 1
step (suc s) false = none

abbrev apart_misses : Machine
apart_misses = record { states = 2; start = 0; next = step }

made : WellMade apart_misses
made = record { start_below = omega arith; next_below = below }
  where
    below : (s t : ℕ) (o : Bool) → s < 2 → step s o ≡ some t → t < 2
    below s t true h e = let f : 0 ≡ t = cc in omega arith
    below zero t false h e = let f : 1 ≡ t = cc in omega arith
    below (suc s) t false h e = let z : ◌≡◌ {A = ℕ} 0 1 = cc in absurd (omega arith)

numbered : NumberedAtSight apart_misses
numbered = record { starts_at_0 = refl; seen = seen; in_order = λ t u s r o x h l b f g. absurd (omega arith) }
  where
    seen : (t : ℕ) → 1 ≤ t → t < 2 → (s : ℕ) × (o : Bool) × FirstSeen apart_misses t s o
    seen t h l =
        let e : 1 ≡ t = omega arith in
        (0, false, record { row_before = omega arith; here = cc; none_before = λ r x b f. omega arith })

stands : StandsFor apart_misses apart_misses (λ s. s)
stands = record {
  start = same_refl apart_misses 0;
  blocked = λ s o h e. e;
  moves = λ s t o h e. (t, e, same_refl apart_misses t);
  apart = apart;
}
  where
    apart : (s t : ℕ) → s < 2 → t < 2 → Same apart_misses s t → s ≡ t
    apart zero zero h g e = refl
    apart zero (suc t) h g e = absurd (can_blocked apart_misses (suc t) false [] refl ((e (false ∷ [])).0 (1, refl)))
    apart (suc s) zero h g e = absurd (can_blocked apart_misses (suc s) false [] refl ((e (false ∷ [])).1 (1, refl)))
    apart (suc s) (suc t) h g e = omega arith

pub apart_misses_canonical : Canonical apart_misses (Walks apart_misses)
apart_misses_canonical = canonical_by_sight apart_misses apart_misses (λ s. s) made stands numbered
