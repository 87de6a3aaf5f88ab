-- Two states are the same in n + 1 jobs if their next states are the same in n, so a round that parts no two states is the last. Assumes nothing.
use mathlib.Core.Path.{◌≡◌, refl}
use mathlib.Core.Logic.Iff
use mathlib.Core.Logic.{◌↔◌}
use mathlib.Core.Option.{Option, none, some}
use mathlib.Core.Bool.{Bool}
use mathlib.Core.List.{List, [], ◌∷◌}
use Prim.Native.Nat.{ℕ, suc, ◌<◌}
use native.Mathlib.Omega.{arith}
use lib.ListN.{length}
use Rattle.machines.specs.Machine.{Machine, WellMade, Can}
use Rattle.machines.specs.Same.{SameTo, Same}
use Rattle.machines.proofs.Walk.{can_moves, can_blocked}

-- r and t are both no state, or both states that are the same in n jobs
pub data SameNext (m : Machine) (n : ℕ) (r t : Option ℕ) : Type 0 where
  both_blocked : r ≡ none → t ≡ none → SameNext m n r t
  both_move : (a b : ℕ) → r ≡ some a → t ≡ some b → SameTo m n a b → SameNext m n r t

module _ (m : Machine) where
  pub same_to_refl : (n a : ℕ) → SameTo m n a a
  same_to_refl n a p h = Iff.rfl

  pub same_to_sym : (n a b : ℕ) → SameTo m n a b → SameTo m n b a
  same_to_sym n a b s p h = Iff.symm (s p h)

  pub same_to_trans : (n a b c : ℕ) → SameTo m n a b → SameTo m n b c → SameTo m n a c
  same_to_trans n a b c s t p h = Iff.trans (s p h) (t p h)

  pub same_to_less : (n a b : ℕ) → SameTo m (suc n) a b → SameTo m n a b
  same_to_less n a b s p h = s p (omega arith)

  pub same_refl : (a : ℕ) → Same m a a
  same_refl a p = Iff.rfl

  pub same_sym : (a b : ℕ) → Same m a b → Same m b a
  same_sym a b s p = Iff.symm (s p)

  pub same_trans : (a b c : ℕ) → Same m a b → Same m b c → Same m a c
  same_trans a b c s t p = Iff.trans (s p) (t p)

  pub same_all : (a b : ℕ) → ((n : ℕ) → SameTo m n a b) ↔ Same m a b
  same_all a b = (λ s p. s (length p) p (omega arith), λ s n p h. s p)

  module _ (n a b : ℕ) where
    same_next : SameTo m (suc n) a b → (o : Bool) → SameNext m n (m.next a o) (m.next b o)
    same_next s o = go (m.next a o) (m.next b o) refl refl
      where
        go : (r t : Option ℕ) → m.next a o ≡ r → m.next b o ≡ t → SameNext m n (m.next a o) (m.next b o)
        go none none e f = both_blocked e f
        go (some c) none e f =
            absurd (can_blocked m b o [] f ((s (o ∷ []) (omega arith)).0 ((can_moves m a c o [] e).1 (c, refl))))
        go none (some d) e f =
            absurd (can_blocked m a o [] e ((s (o ∷ []) (omega arith)).1 ((can_moves m b d o [] f).1 (d, refl))))
        go (some c) (some d) e f = both_move c d e f (λ p h.
            Iff.trans (Iff.symm (can_moves m a c o p e)) (Iff.trans (s (o ∷ p) (omega arith)) (can_moves m b d o p f)))

    -- where the next states can walk p, the states can walk it after o
    next_same : (o : Bool) (p : List Bool) → SameNext m n (m.next a o) (m.next b o)
        → ((c d : ℕ) → m.next a o ≡ some c → m.next b o ≡ some d → SameTo m n c d → Can m c p ↔ Can m d p)
        → Can m a (o ∷ p) ↔ Can m b (o ∷ p)
    next_same o p (both_blocked e f) g =
        (λ c. absurd (can_blocked m a o p e c), λ c. absurd (can_blocked m b o p f c))
    next_same o p (both_move c d e f s) g =
        Iff.trans (can_moves m a c o p e) (Iff.trans (g c d e f s) (Iff.symm (can_moves m b d o p f)))

    pub same_step : SameTo m (suc n) a b ↔ ((o : Bool) → SameNext m n (m.next a o) (m.next b o))
    same_step = (same_next, back)
      where
        back : ((o : Bool) → SameNext m n (m.next a o) (m.next b o)) → SameTo m (suc n) a b
        back s [] h = (λ c. (b, refl), λ c. (a, refl))
        back s (o ∷ p) h = next_same o p (s o) (λ c d e f g. g p (omega arith))

  -- a round that parts no two states
  abbrev pub Settled : ℕ → Type 0
  Settled n = (a b : ℕ) → a < m.states → b < m.states → SameTo m n a b → SameTo m (suc n) a b

  pub round_ends : WellMade m → (n : ℕ) → Settled n → (a b : ℕ) → a < m.states → b < m.states → SameTo m n a b → Same m a b
  round_ends w n k a b ha hb s [] = s [] (omega arith)
  round_ends w n k a b ha hb s (o ∷ p) = next_same n a b o p (same_next n a b (k a b ha hb s) o) (λ c d e f g.
      round_ends w n k c d (w.next_below a c o ha e) (w.next_below b d o hb f) g p)
