-- Two canonical machines of one language share the first patterns of their states, so they number the states alike and have one table. Assumes nothing.
use mathlib.Core.Path.{◌≡◌, refl, ◌∙◌}
use mathlib.Core.Logic.Iff
use mathlib.Core.Logic.{◌↔◌, dite}
use mathlib.Core.Option.{Option, none, some}
use mathlib.Core.Bool.{Bool}
use mathlib.Core.List.{List, [], ◌∷◌, ◌++◌}
use Prim.Native.Nat.{ℕ, zero, suc, ◌≤◌, ◌<◌}
use native.Mathlib.Decide.{ℕ_discrete, dec_le, dec_lt}
use native.Mathlib.Omega.{arith}
use Rattle.patterns.specs.Order.{NoLater}
use Rattle.patterns.proofs.Codes.{no_later_antisym}
use Rattle.machines.specs.Machine.{Machine, walk, Walks}
use Rattle.machines.specs.Canonical.{FirstTo, Canonical, OneTable}
use Rattle.machines.proofs.Walk.{walk_snoc, walk_below, cannot}
use Rattle.machines.proofs.Standing.{canonical_language}
use Rattle.machines.proofs.Meeting.{meeting_same}

-- s in m and t in n have the first pattern p
record Paired (m n : Machine) (s t : ℕ) (p : List Bool) : Type 0 where
  here : FirstTo m s p
  there : FirstTo n t p

module _ (L : List Bool → Type 0) where
  reached_below : (m : Machine) → Canonical m L → (s : ℕ) (p : List Bool) → walk m m.start p ≡ some s → s < m.states
  reached_below m c s p = walk_below m c.well_made m.start s p c.well_made.start_below

  module _ (m n : Machine) (cm : Canonical m L) (cn : Canonical n L) where
    alike : (p : List Bool) → Walks m p ↔ Walks n p
    alike p = Iff.trans (cm.exact p) (Iff.symm (cn.exact p))

    one_state : (a b c : ℕ) (p q : List Bool) → walk m m.start p ≡ some a → walk m m.start q ≡ some b
        → walk n n.start p ≡ some c → walk n n.start q ≡ some c → a ≡ b
    one_state a b c p q e f g h =
        cm.differ a b (reached_below m cm a p e) (reached_below m cm b q f) (meeting_same m n alike a b c p q e f g h)

    paired : (s t : ℕ) (p : List Bool) → FirstTo m s p → walk n n.start p ≡ some t → Paired m n s t p
    paired s t p f e = record { here = f; there = record { reaches = e; none_earlier = none_earlier } }
      where
        none_earlier : (q : List Bool) → walk n n.start q ≡ some t → NoLater p q
        none_earlier q g =
            let (b, k) = (alike q).1 (t, g) in
            let i = one_state b s t q p k f.reaches g e in
            f.none_earlier q (cc)

    pair : (s : ℕ) → s < m.states → (t : ℕ) × (p : List Bool) × Paired m n s t p
    pair s h =
        let (p, f) = cm.first s h in
        let (t, e) = (alike p).0 (s, f.reaches) in
        (t, p, paired s t p f e)

    pairs_rise : (s u t v : ℕ) (p q : List Bool) → Paired m n s t p → Paired m n u v q → s < u → t < v
    pairs_rise s u t v p q a b h =
        dite (dec_lt t v) (λ l. l) (λ l.
        dite (ℕ_discrete t v) (λ e. absurd (omega (arith, one_state s u t p q (cc) (cc) (cc) (cc)))) (λ d.
        let f = cm.in_order s u p q h (reached_below m cm u q (cc)) a.here b.here in
        let g = cn.in_order v t q p (omega arith) (reached_below n cn t p (cc)) b.there a.there in
        let e = no_later_antisym p q f g in
        let i : s ≡ u = cc in
        absurd (omega arith)))

    pairs_climb : (s t : ℕ) (p : List Bool) → Paired m n s t p → s ≤ t
    pairs_climb zero t p a = omega arith
    pairs_climb (suc s) t p a =
        let (u, q, b) = pair s (omega (arith, reached_below m cm (suc s) p a.here.reaches)) in
        omega (arith, pairs_climb s u q b, pairs_rise s (suc s) u t q p b a (omega arith))

  module _ (m n : Machine) (cm : Canonical m L) (cn : Canonical n L) where
    pair_equal : (s t : ℕ) (p : List Bool) → Paired m n s t p → s ≡ t
    pair_equal s t p a =
        let h = pairs_climb m n cm cn s t p a in
        let k = pairs_climb n m cn cm t s p (record { here = a.there; there = a.here }) in
        omega arith

    same_number : (s t : ℕ) (p : List Bool) → walk m m.start p ≡ some s → walk n n.start p ≡ some t → s ≡ t
    same_number s t p e f =
        let (u, q, a) = pair m n cm cn s (reached_below m cm s p e) in
        pair_equal s u q a ∙ one_state n m cn cm u t s q p a.there.reaches f a.here.reaches e

    states_le : m.states ≤ n.states
    states_le = dite (dec_le m.states n.states) (λ h. h) (λ h.
        let (t, p, a) = pair m n cm cn n.states (omega arith) in
        absurd (omega (arith, pair_equal n.states t p a, reached_below n cn t p a.there.reaches)))

    walks_alike : (p : List Bool) → walk m m.start p ≡ walk n n.start p
    walks_alike p = go (walk m m.start p) (walk n n.start p) refl refl
      where
        go : (r t : Option ℕ) → walk m m.start p ≡ r → walk n n.start p ≡ t → r ≡ t
        go none none e f = refl
        go (some a) none e f = absurd (cannot n n.start p f ((alike m n cm cn p).0 (a, e)))
        go none (some b) e f = absurd (cannot m m.start p e ((alike m n cm cn p).1 (b, f)))
        go (some a) (some b) e f = cc (same_number a b p e f)

    moves_alike : (s : ℕ) (o : Bool) → s < m.states → m.next s o ≡ n.next s o
    moves_alike s o h =
        let (t, p, a) = pair m n cm cn s h in
        let e = pair_equal s t p a in
        let f = walk_snoc m m.start s p o (cc) in
        let g = walk_snoc n n.start s p o (cc) in
        cc (walks_alike (p ++ o ∷ []))

pub canonical_unique : (m n : Machine) (L L' : List Bool → Type 0) → Canonical m L → Canonical n L'
    → ((p : List Bool) → L p ↔ L' p) → OneTable m n
canonical_unique m n L L' cm c e = record {
  states = omega (arith, states_le L m n cm cn, states_le L n m cn cm);
  moves = moves_alike L m n cm cn;
}
  where
    cn : Canonical n L
    cn = canonical_language n L' L c (λ p. Iff.symm (e p))
