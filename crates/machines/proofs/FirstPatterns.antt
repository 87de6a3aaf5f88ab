-- In a machine numbered at first sight, the row where a state is first seen gives its first pattern, and places are ordered as codes. Assumes nothing.
use mathlib.Core.Path.{◌≡◌, ap, ◌∙◌}
use mathlib.Core.Logic.{dite}
use mathlib.Core.Option.{some}
use mathlib.Core.Bool.{Bool}
use mathlib.Core.List.{List, [], ◌∷◌, ◌++◌, append_assoc, append-nil}
use Prim.Native.Nat.{ℕ, zero, suc, ◌≤◌, ◌<◌}
use native.Mathlib.Decide.{dec_lt}
use native.Mathlib.Omega.{arith}
use Rattle.patterns.specs.Number.{code}
use Rattle.patterns.proofs.Numbers.{bit_le}
use Rattle.patterns.proofs.Codes.{code_snoc, code_positive, no_later_code}
use Rattle.machines.specs.Machine.{Machine, WellMade, walk}
use Rattle.machines.specs.Canonical.{FirstTo}
use Rattle.machines.specs.Numbering.{place, FirstSeen, NumberedAtSight}
use Rattle.machines.proofs.Walk.{walk_snoc, walk_first, walk_below}

-- the pattern built for a state: none for the start, else that of the row where the state is first seen, and the outcome there
data Built (m : Machine) : ℕ → List Bool → Type 0 where
  at_start : Built m zero []
  by_row : {t s : ℕ} {o : Bool} {q : List Bool} → FirstSeen m t s o → Built m s q → Built m t (q ++ o ∷ [])

-- c and d are in the order of s and t, strictly where these are
abbrev Rises : (s t c d : ℕ) → Type 0
Rises s t c d = (s ≤ t → c ≤ d) × (s < t → c < d)

-- patterns in the order of their rows, and an outcome after each, are in the order of their places
place_rises : (s r : ℕ) (o x : Bool) (p q : List Bool) → Rises s r (code p) (code q)
    → Rises (place s o) (place r x) (code (p ++ o ∷ [])) (code (q ++ x ∷ []))
place_rises s r o x p q k =
    let c = code_snoc p o in
    let d = code_snoc q x in
    let a = bit_le o in
    let b = bit_le x in
    dite (dec_lt s r) (λ h. let i = k.1 h in omega arith) (λ h.
    dite (dec_lt r s) (λ g. omega arith) (λ g. let i = k.0 (omega arith) in omega arith))

module _ (m : Machine) (w : WellMade m) (n : NumberedAtSight m) where
  build : (k t : ℕ) → t < k → t < m.states → (p : List Bool) × Built m t p
  build zero t h l = absurd (omega arith)
  build (suc k) zero h l = ([], at_start)
  build (suc k) (suc t) h l =
      let (s, o, f) = n.seen (suc t) (omega arith) l in
      let b = f.row_before in
      let (q, g) = build k s (omega arith) (omega arith) in
      (q ++ o ∷ [], by_row f g)

  built : (t : ℕ) → t < m.states → (p : List Bool) × Built m t p
  built t = build (suc t) t (omega arith)

  built_reaches : {t : ℕ} {p : List Bool} → Built m t p → walk m m.start p ≡ some t
  built_reaches at_start = cc n.starts_at_0
  built_reaches (by_row {s} {o} {q} f b) = walk_snoc m m.start s q o (built_reaches b) ∙ f.here

  seen_rises : (t u s r : ℕ) (o x : Bool) → u < m.states → FirstSeen m t s o → FirstSeen m u r x
      → Rises t u (place s o) (place r x)
  seen_rises t u s r o x l f g = (no_later, earlier)
    where
      earlier : t < u → place s o < place r x
      earlier h = n.in_order t u s r o x (omega arith) h l f g

      no_later : t ≤ u → place s o ≤ place r x
      no_later h = dite (dec_lt t u) (λ i. omega (arith, earlier i)) (λ i.
          let e : t ≡ u = omega arith in
          f.none_before r x (omega arith) (cc g.here))

  built_rises : {s t : ℕ} {p q : List Bool} → t < m.states → Built m s p → Built m t q → Rises s t (code p) (code q)
  built_rises l at_start at_start = omega arith
  built_rises l at_start (by_row {o} {q} f b) = omega (arith, code_positive q, code_snoc q o)
  built_rises l (by_row f a) at_start = omega arith
  built_rises l (by_row {t} {s} {o} {q = p} f a) (by_row {t = u} {s = r} {o = x} {q} g b) =
      let (h, i) = seen_rises t u s r o x l f g in
      let (j, k) = place_rises s r o x p q (built_rises (omega arith) a b) in
      (λ z. j (h z), λ z. k (i z))

  -- a state's pattern is no later than that of any row that leads to it, and the outcome there
  row_no_earlier : {r t : ℕ} {p q : List Bool} (x : Bool) → r < m.states → Built m t p → Built m r q
      → m.next r x ≡ some t → code p ≤ code (q ++ x ∷ [])
  row_no_earlier {q} x l at_start b e = code_positive (q ++ x ∷ [])
  row_no_earlier {r} {q} x l (by_row {s} {o} {q = p} f a) b e =
      (place_rises s r o x p q (built_rises l a b)).0 (f.none_before r x l e)

  -- nor than q and v, if q comes no earlier than the pattern of a state from which v leads to it
  way_no_earlier : (t r : ℕ) (p a q v : List Bool) → r < m.states → Built m t p → Built m r a
      → code a ≤ code q → walk m r v ≡ some t → code p ≤ code (q ++ v)
  way_no_earlier t r p a q [] l b c h e =
      let s : r ≡ t = cc in
      omega (arith, (built_rises l b c).0 (omega arith), ap code (append-nil q))
  way_no_earlier t r p a q (x ∷ v) l b c h e =
      let (u, f, g) = walk_first m r t x v e in
      let k = w.next_below r u x l f in
      let (d, z) = built u k in
      let i : code d ≤ code (q ++ x ∷ []) = omega (arith, row_no_earlier x l z c f, code_snoc a x, code_snoc q x) in
      rw append_assoc at (way_no_earlier t u p d (q ++ x ∷ []) v k b z i g)

  built_least : (t : ℕ) (p q : List Bool) → Built m t p → walk m m.start q ≡ some t → code p ≤ code q
  built_least t p q b e =
      let h = w.start_below in
      let s = n.starts_at_0 in
      way_no_earlier t 0 p [] [] q (omega arith) b at_start (omega arith) (cc)

  pub first_pattern : (s : ℕ) → s < m.states → (p : List Bool) × FirstTo m s p
  first_pattern s h =
      let (p, b) = built s h in
      (p, record { reaches = built_reaches b; none_earlier = λ q e. (no_later_code p q).1 (built_least s p q b e) })

  pub first_in_order : (s t : ℕ) (p q : List Bool) → s < t → FirstTo m s p → FirstTo m t q → code p < code q
  first_in_order s t p q h f g =
      let l = walk_below m w m.start t q w.start_below g.reaches in
      let (a, b) = built s (omega arith) in
      let (c, d) = built t l in
      let i = (no_later_code p a).0 (f.none_earlier a (built_reaches b)) in
      omega (arith, (built_rises l b d).1 h, built_least t c q d g.reaches)
