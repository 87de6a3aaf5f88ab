-- Where two machines walk the same patterns, patterns that lead to one state in the one lead to same states in the other. Assumes nothing.
use mathlib.Core.Path.{◌≡◌}
use mathlib.Core.Logic.Iff
use mathlib.Core.Logic.{◌↔◌}
use mathlib.Core.Option.{some}
use mathlib.Core.Bool.{Bool}
use mathlib.Core.List.{List, ◌++◌}
use Prim.Native.Nat.{ℕ}
use Rattle.machines.specs.Machine.{Machine, walk, Can, Walks}
use Rattle.machines.specs.Same.{Same}
use Rattle.machines.proofs.Walk.{can_after}

module _ (m n : Machine) (alike : (p : List Bool) → Walks m p ↔ Walks n p) where
  can_alike : (a b : ℕ) (p : List Bool) → walk m m.start p ≡ some a → walk n n.start p ≡ some b
      → (v : List Bool) → Can m a v ↔ Can n b v
  can_alike a b p e f v =
      Iff.trans (Iff.symm (can_after m m.start a p v e)) (Iff.trans (alike (p ++ v)) (can_after n n.start b p v f))

  pub meeting_same : (a b c : ℕ) (p q : List Bool) → walk m m.start p ≡ some a → walk m m.start q ≡ some b
      → walk n n.start p ≡ some c → walk n n.start q ≡ some c → Same m a b
  meeting_same a b c p q e f g h v = Iff.trans (can_alike a c p e g v) (Iff.symm (can_alike b c q f h v))
