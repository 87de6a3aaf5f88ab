-- A machine numbered at first sight whose states stand for the different states of a source is canonical for what the source walks. Assumes nothing.
use mathlib.Core.Path.{◌≡◌, refl}
use mathlib.Core.Logic.Iff
use mathlib.Core.Logic.{◌↔◌}
use mathlib.Core.Option.{Option, none, some}
use mathlib.Core.Bool.{Bool}
use mathlib.Core.List.{List, [], ◌∷◌}
use Prim.Native.Nat.{ℕ, ◌<◌}
use native.Mathlib.Omega.{arith}
use Rattle.patterns.proofs.Codes.{no_later_code}
use Rattle.machines.specs.Machine.{Machine, WellMade, Can, Walks}
use Rattle.machines.specs.Canonical.{Canonical}
use Rattle.machines.specs.Numbering.{NumberedAtSight, StandsFor}
use Rattle.machines.proofs.Walk.{can_moves, can_blocked}
use Rattle.machines.proofs.FirstPatterns.{first_pattern, first_in_order}

module _ (m source : Machine) (of : ℕ → ℕ) (w : WellMade m) (f : StandsFor m source of) where
  pub stands_can : (s : ℕ) → s < m.states → (p : List Bool) → Can m s p ↔ Can source (of s) p
  stands_can s h [] = (λ c. (of s, refl), λ c. (s, refl))
  stands_can s h (o ∷ p) = go (m.next s o) refl (λ t l. stands_can t l p)
    where
      go : (r : Option ℕ) → m.next s o ≡ r
          → ((t : ℕ) → t < m.states → Can m t p ↔ Can source (of t) p) → Can m s (o ∷ p) ↔ Can source (of s) (o ∷ p)
      go none e ih =
          (λ c. absurd (can_blocked m s o p e c), λ c. absurd (can_blocked source (of s) o p (f.blocked s o h e) c))
      go (some t) e ih =
          let (u, g, same) = f.moves s t o h e in
          Iff.trans (can_moves m s t o p e)
          (Iff.trans (ih t (w.next_below s t o h e)) (Iff.trans (same p) (Iff.symm (can_moves source (of s) u o p g))))

  pub canonical_by_sight : NumberedAtSight m → Canonical m (Walks source)
  canonical_by_sight n = record {
    well_made = w;
    starts_at_0 = n.starts_at_0;
    exact = λ p. Iff.trans (stands_can m.start w.start_below p) (f.start p);
    first = first_pattern m w n;
    in_order = λ s t p q h l a b. (no_later_code p q).1 (omega (arith, first_in_order m w n s t p q h a b));
    differ = λ a b ha hb s. f.apart a b ha hb (λ p.
        Iff.trans (Iff.symm (stands_can a ha p)) (Iff.trans (s p) (stands_can b hb p)));
  }

pub canonical_language : (m : Machine) (L L' : List Bool → Type 0) → Canonical m L → ((p : List Bool) → L p ↔ L' p)
    → Canonical m L'
canonical_language m L L' c e = record {
  well_made = c.well_made;
  starts_at_0 = c.starts_at_0;
  exact = λ p. Iff.trans (c.exact p) (e p);
  first = c.first;
  in_order = c.in_order;
  differ = c.differ;
}
