-- Laws for machines of small tables: one whose states differ is canonical for what it walks, and for what a set keeps where a function carries histories to its states and every move with them. Both are tested state by state. Assumes nothing.
use mathlib.Core.Path.{◌≡◌, refl, ap, ◌∙◌, subst}
use mathlib.Core.Logic.Iff
use mathlib.Core.Logic.{◌↔◌, dite}
use mathlib.Core.Option.{Option, none, some, map}
use mathlib.Core.Bool.{Bool, true, false, ◌&&◌}
use mathlib.Core.List.{List, [], ◌∷◌}
use Prim.Native.Nat.{ℕ, suc, ◌<◌}
use native.Mathlib.Decide.{dec_lt}
use native.Mathlib.Omega.{arith}
use lib.Dec.{T, eqb, eqb→eq}
use Rattle.machines.specs.Machine.{Machine, WellMade, walk, Can, Walks}
use Rattle.machines.specs.Same.{Same}
use Rattle.machines.specs.Canonical.{Canonical}
use Rattle.machines.specs.Numbering.{NumberedAtSight, StandsFor}
use Rattle.machines.proofs.Walk.{cannot, can_moves, can_blocked}
use Rattle.machines.proofs.Rounds.{same_refl, same_sym}
use Rattle.machines.proofs.Standing.{canonical_by_sight, canonical_language}
use Rattle.meaning.specs.declared.LimitSet.{LimitSet}
use Rattle.meaning.specs.Sets.{SetAllowed, KeptBy}
use Rattle.meaning.specs.Test.{every}
use Rattle.meaning.proofs.Decide.{and_T, every_at}
use Rattle.history.specs.Machine.{history_machine}
use Rattle.history.proofs.Walked.{kept_walked}
use Rattle.classes.proofs.Converge.{history_well_made}

-- no two states are the same
abbrev pub Differ : Machine → Type 0
Differ m = (a b : ℕ) → a < m.states → b < m.states → Same m a b → a ≡ b

pub canonical_for_its_walks : (m : Machine) → WellMade m → NumberedAtSight m → Differ m → Canonical m (Walks m)
canonical_for_its_walks m w n differ = canonical_by_sight m m (λ s. s) w stands n
  where
    stands : StandsFor m m (λ s. s)
    stands = record {
      start = same_refl m m.start;
      blocked = λ s o h e. e;
      moves = λ s t o h e. (t, e, same_refl m t);
      apart = differ;
    }

pub one_state_canonical : (m : Machine) → WellMade m → m.start ≡ 0 → m.states ≡ 1 → Canonical m (Walks m)
one_state_canonical m w start one = canonical_for_its_walks m w numbered (λ a b ha hb s. omega arith)
  where
    numbered : NumberedAtSight m
    numbered = record {
      starts_at_0 = start;
      seen = λ t h l. absurd (omega arith);
      in_order = λ t u s r o x h l b f g. absurd (omega arith);
    }

-- one of two walks alone comes to its end
abbrev only_one : Option ℕ → Option ℕ → Bool
only_one none none = false
only_one none (some t) = true
only_one (some t) none = true
only_one (some t) (some u) = false

module _ (m : Machine) where
  not_same : (a b : ℕ) (p : List Bool) → T (only_one (walk m a p) (walk m b p)) → Same m a b → ⊥
  not_same a b p t s = go (walk m a p) (walk m b p) refl refl t
    where
      go : (r u : Option ℕ) → walk m a p ≡ r → walk m b p ≡ u → T (only_one r u) → ⊥
      go none none e f t = absurd t
      go none (some c) e f t = cannot m a p e ((s p).1 (c, f))
      go (some c) none e f t = cannot m b p f ((s p).0 (c, e))
      go (some c) (some d) e f t = absurd t

  module _ (from : ℕ → List Bool) where
    -- the pattern `from a` tells state a from every later state
    abbrev later_test : ℕ → ℕ → Bool
    later_test b a = only_one (walk m a (from a)) (walk m b (from a))

    abbrev pub differ_test : Bool
    differ_test = every m.states (λ b. every b (later_test b))

    pub test_differ : T differ_test → Differ m
    test_differ t a b ha hb s =
        dite (dec_lt a b) (λ l. absurd (later a b l hb s)) (λ l.
        dite (dec_lt b a) (λ k. absurd (later b a k ha (same_sym m a b s))) (λ k. omega arith))
      where
        later : (a b : ℕ) → a < b → b < m.states → Same m a b → ⊥
        later a b l h = not_same a b (from a) (every_at b (later_test b) (every_at m.states (λ b. every b (later_test b)) t b h) a l)

-- f carries the states of m to states of n, and every move with them
record Carries (m n : Machine) (f : ℕ → ℕ) : Type 0 where
  start : f m.start ≡ n.start
  moves : (s : ℕ) (o : Bool) → s < m.states → n.next (f s) o ≡ map f (m.next s o)

abbrev same_state : Option ℕ → Option ℕ → Bool
same_state none none = true
same_state none (some b) = false
same_state (some a) none = false
same_state (some a) (some b) = eqb a b

same_state_lem : (a b : Option ℕ) → T (same_state a b) → a ≡ b
same_state_lem none none t = refl
same_state_lem none (some b) t = absurd t
same_state_lem (some a) none t = absurd t
same_state_lem (some a) (some b) t = ap some (eqb→eq a b t)

module _ (m n : Machine) (f : ℕ → ℕ) where
  module _ (w : WellMade m) (c : Carries m n f) where
    can_carried : (s : ℕ) → s < m.states → (p : List Bool) → Can n (f s) p ↔ Can m s p
    can_carried s h [] = (λ d. (s, refl), λ d. (f s, refl))
    can_carried s h (o ∷ p) = go (m.next s o) refl (λ t l. can_carried t l p)
      where
        go : (r : Option ℕ) → m.next s o ≡ r → ((t : ℕ) → t < m.states → Can n (f t) p ↔ Can m t p)
            → Can n (f s) (o ∷ p) ↔ Can m s (o ∷ p)
        go none e ih =
            let g = c.moves s o h ∙ ap (map f) e in
            (λ d. absurd (can_blocked n (f s) o p g d), λ d. absurd (can_blocked m s o p e d))
        go (some t) e ih =
            let g = c.moves s o h ∙ ap (map f) e in
            Iff.trans (can_moves n (f s) (f t) o p g)
            (Iff.trans (ih t (w.next_below s t o h e)) (Iff.symm (can_moves m s t o p e)))

    walks_carried : (p : List Bool) → Walks n p ↔ Walks m p
    walks_carried p = subst (λ z. Can n z p ↔ Walks m p) c.start (can_carried m.start w.start_below p)

  abbrev move_test : ℕ → Bool → Bool
  move_test s o = same_state (n.next (f s) o) (map f (m.next s o))

  abbrev moves_test : ℕ → Bool
  moves_test s = move_test s false && move_test s true

  abbrev pub carries_test : Bool
  carries_test = eqb (f m.start) n.start && every m.states moves_test

  test_carries : T carries_test → Carries m n f
  test_carries t =
      let (begin, each) = (and_T (eqb (f m.start) n.start) (every m.states moves_test)).0 t in
      record { start = eqb→eq _ _ begin; moves = λ s o h. moves s o ((and_T (move_test s false) (move_test s true)).0 (every_at m.states moves_test each s h)) }
    where
      moves : (s : ℕ) (o : Bool) → T (move_test s false) × T (move_test s true) → n.next (f s) o ≡ map f (m.next s o)
      moves s false t = same_state_lem _ _ t.0
      moves s true t = same_state_lem _ _ t.1

pub canonical_for_kept : (s : LimitSet) (m : ℕ) (n : Machine) (f : ℕ → ℕ) → SetAllowed (suc m) s → Canonical n (Walks n)
    → T (carries_test (history_machine s m) n f) → Canonical n (KeptBy s)
canonical_for_kept s m n f ok c t =
    let h = history_machine s m in
    canonical_language n (Walks n) (KeptBy s) c (λ p.
    Iff.trans (walks_carried h n f (history_well_made s m) (test_carries h n f t) p) (kept_walked s m ok p))
