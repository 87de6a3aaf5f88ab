-- A canonical machine has the fewest states: in another with the same patterns, its first patterns lead to different states. Assumes nothing.
use mathlib.Core.Path.{◌≡◌, subst}
use mathlib.Core.Logic.Iff
use mathlib.Core.Logic.{◌↔◌, ◌≢◌, ◌⊎◌, inl, inr, dite}
use mathlib.Core.Option.{some}
use mathlib.Core.Bool.{Bool}
use mathlib.Core.List.{List}
use Prim.Native.Nat.{ℕ, zero, suc, ◌≤◌, ◌<◌}
use native.Mathlib.Decide.{ℕ_discrete}
use native.Mathlib.Omega.{arith}
use Rattle.machines.specs.Machine.{Machine, WellMade, walk, Walks}
use Rattle.machines.specs.Canonical.{Canonical}
use Rattle.machines.proofs.Walk.{walk_below}
use Rattle.machines.proofs.Meeting.{meeting_same}

-- each number below a has a hole below b, no two the same
record Placed (a b : ℕ) (R : ℕ → ℕ → Type 0) : Type 0 where
  hole : (i : ℕ) → i < a → (k : ℕ) × (k < b) × R i k
  alone : (i j k : ℕ) → i < a → j < a → R i k → R j k → i ≡ j

-- without the last number and the last hole: who was in the last hole moves to that of the last number
abbrev Moved : (ℕ → ℕ → Type 0) → (a b i k : ℕ) → Type 0
Moved R a b i k = R i k ⊎ (R i b × R a k)

moved : (a b : ℕ) (R : ℕ → ℕ → Type 0) → Placed (suc a) (suc b) R → Placed a b (Moved R a b)
moved a b R d = record { hole = hole; alone = alone }
  where
    hole : (i : ℕ) → i < a → (k : ℕ) × (k < b) × Moved R a b i k
    hole i h =
        let (k, l, r) = d.hole i (omega arith) in
        let (c, l', z) = d.hole a (omega arith) in
        dite (ℕ_discrete k b) (λ e.
        let y = subst (λ k. R i k) e r in
        let n : c ≢ b = λ f. omega (arith, d.alone i a b (omega arith) (omega arith) y (subst (λ k. R a k) f z)) in
        (c, omega arith, inr (y, z))) (λ n. (k, omega arith, inl r))

    alone : (i j k : ℕ) → i < a → j < a → Moved R a b i k → Moved R a b j k → i ≡ j
    alone i j k h g (inl r) (inl t) = d.alone i j k (omega arith) (omega arith) r t
    alone i j k h g (inl r) (inr (t, z)) = absurd (omega (arith, d.alone i a k (omega arith) (omega arith) r z))
    alone i j k h g (inr (r, z)) (inl t) = absurd (omega (arith, d.alone j a k (omega arith) (omega arith) t z))
    alone i j k h g (inr (r, z)) (inr (t, y)) = d.alone i j b (omega arith) (omega arith) r t

pigeonhole : (a b : ℕ) (R : ℕ → ℕ → Type 0) → Placed a b R → a ≤ b
pigeonhole zero b R d = omega arith
pigeonhole (suc a) zero R d = let (k, l, r) = d.hole 0 (omega arith) in absurd (omega arith)
pigeonhole (suc a) (suc b) R d = omega (arith, pigeonhole a b (Moved R a b) (moved a b R d))

pub canonical_fewest : (m n : Machine) (L : List Bool → Type 0) → Canonical m L → WellMade n
    → ((p : List Bool) → Walks n p ↔ L p) → m.states ≤ n.states
canonical_fewest m n L c w e = pigeonhole m.states n.states R (record { hole = hole; alone = alone })
  where
    R : ℕ → ℕ → Type 0
    R s t = (p : List Bool) × (walk m m.start p ≡ some s) × (walk n n.start p ≡ some t)

    hole : (s : ℕ) → s < m.states → (t : ℕ) × (t < n.states) × R s t
    hole s h =
        let (p, f) = c.first s h in
        let (t, g) = (e p).1 ((c.exact p).0 (s, f.reaches)) in
        (t, walk_below n w n.start t p w.start_below g, (p, f.reaches, g))

    alone : (a b t : ℕ) → a < m.states → b < m.states → R a t → R b t → a ≡ b
    alone a b t h k (p, f, g) (q, i, j) =
        c.differ a b h k (meeting_same m n (λ p. Iff.trans (c.exact p) (Iff.symm (e p))) a b t p q f i g j)
