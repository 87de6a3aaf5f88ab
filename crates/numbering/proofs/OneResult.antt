-- The promise of `numbering::number` allows one result: whatever set the classes are of, its histories walk one language, and canonical machines for it have as many states. Assumes nothing.
use mathlib.Core.Path.{◌≡◌}
use mathlib.Core.List.{List}
use Prim.Native.Nat.{ℕ, ◌^◌}
use Rattle.machines.specs.Machine.{Walks}
use Rattle.machines.specs.Canonical.{Canonical}
use Rattle.machines.proofs.Standing.{canonical_by_sight}
use Rattle.machines.proofs.Unique.{canonical_unique}
use Rattle.meaning.specs.declared.LimitSet.{LimitSet}
use Rattle.history.specs.Machine.{history_machine}
use Rattle.numbering.specs.Numbered.{class_of, numbered_machine, Numbered}
use Rattle.numbering.specs.Work.{OfSomeSet, NumberedFrom}

pub numbered_canonical : (s : LimitSet) (m : ℕ) (w : List ℕ) (count : ℕ) → Numbered s m w count
    → Canonical (numbered_machine (2 ^ m) w count) (Walks (history_machine s m))
numbered_canonical s m w count N =
    canonical_by_sight (numbered_machine (2 ^ m) w count) (history_machine s m) (class_of (2 ^ m) w) N.well_made N.stands N.at_sight

pub number_one_result : (n : ℕ) (w a b : List ℕ) (r t : ℕ) → OfSomeSet n w → NumberedFrom n w a r → NumberedFrom n w b t → r ≡ t
number_one_result n w a b r t (s, m, e, C) f g =
    (canonical_unique (numbered_machine (2 ^ m) a r) (numbered_machine (2 ^ m) b t) (Walks (history_machine s m)) (Walks (history_machine s m))
    (numbered_canonical s m a r (f.numbered s m e C)) (numbered_canonical s m b t (g.numbered s m e C))
    (λ p. (λ k. k, λ k. k))).states
