-- Writing a history's outcomes into places, the newest first: the places not yet written are 0, the others hold what is no longer in the history. And a pattern is known from its places. Assumes nothing.
use mathlib.Core.Path.{◌≡◌, refl, sym, ap, ap₂, ◌∙◌}
use mathlib.Core.Bool.{Bool, true, false}
use mathlib.Core.List.{List, [], ◌∷◌, ◌++◌, append-nil, append_assoc, map, map-append}
use Prim.Native.Nat.{ℕ, suc, ◌+◌, ◌-◌, ◌/◌, ◌%◌, ◌≤◌, ◌<◌}
use native.Mathlib.Numerals.{add-one}
use native.Mathlib.Omega.{arith}
use lib.Dec.{eqb}
use lib.ListN.{length, set, replicate, replicate-append-replicate, length-replicate}
use lib.Seq.{set_at}
use Rattle.patterns.specs.Outcome.{bit}
use Rattle.patterns.proofs.Numbers.{length_snoc}
use Rattle.history.specs.History.{newest}
use Rattle.compare.specs.declared.Pattern.{Pattern}
use Rattle.compare.specs.Compare.{packed}
use Rattle.compare.specs.Splits.{outcomes_of}
use Rattle.compare.proofs.Outcomes.{outcomes_suc, outcomes_length, odd_bit}

-- i of the n outcomes of h are left, in rest; the others have been written
abbrev pub Filled : (h n : ℕ) → List ℕ → (rest i : ℕ) → Type 0
Filled h n places rest i =
    (t : List Bool) × (outcomes_of n h ≡ outcomes_of i rest ++ t) × (places ≡ replicate i 0 ++ (map bit t ++ replicate (16 - n) 0))

pub filled_start : (h n : ℕ) → n ≤ 16 → Filled h n (replicate 16 0) h n
filled_start h n l =
    let e : 16 ≡ n + (16 - n) = omega arith in
    ([], sym (append-nil (outcomes_of n h)), ap (λ z. replicate z 0) e ∙ sym (replicate-append-replicate n (16 - n) 0))

pub filled_turn : (h n : ℕ) (places : List ℕ) (rest i : ℕ) → Filled h n places rest (suc i) → Filled h n (set places i (rest % 2)) (rest / 2) i
filled_turn h n places rest i (t, e, f) =
    let o = eqb (rest % 2) 1 in
    let w = map bit t ++ replicate (16 - n) 0 in (
      o ∷ t,
      e ∙ ap (λ z. z ++ t) (outcomes_suc i rest) ∙ append_assoc (outcomes_of i (rest / 2)) (o ∷ []) t,
      ap (λ z. set z i (rest % 2)) (f ∙ ap (λ z. z ++ w) (replicate_last i) ∙ append_assoc (replicate i 0) (0 ∷ []) w)
          ∙ set_at (replicate i 0) 0 w (rest % 2) i (length-replicate i 0)
          ∙ ap {B = List ℕ} (λ z. replicate i 0 ++ (z ∷ w)) (sym (odd_bit rest)),
    )
  where
    replicate_last : (k : ℕ) → replicate {A = ℕ} (suc k) 0 ≡ replicate k 0 ++ 0 ∷ []
    replicate_last k = ap (λ z. replicate {A = ℕ} z 0) (sym (add-one k)) ∙ sym (replicate-append-replicate k 1 0)

pub filled_end : (h n : ℕ) (places : List ℕ) (rest : ℕ) → n < 16 → Filled h n places rest 0 → (record { length = n + 1; outcomes = places }) ≡ packed (outcomes_of n h ++ false ∷ [])
unfolding newest
filled_end h n places rest l (t, e, f) =
    let p = outcomes_of n h ++ false ∷ [] in
    let s : length p ≡ n + 1 = omega (arith, length_snoc (outcomes_of n h) false, outcomes_length n h) in
    let r : 16 - n ≡ suc (16 - length p) = omega arith in
    ap₂ {C = Pattern} (λ a b. record { length = a; outcomes = b }) (sym s)
    (f ∙ ap (λ z. map bit t ++ replicate z 0) r
    ∙ ap (λ z. map bit z ++ (0 ∷ replicate (16 - length p) 0)) (sym e)
    ∙ sym (append_assoc (map bit (outcomes_of n h)) (0 ∷ []) (replicate (16 - length p) 0))
    ∙ ap (λ z. z ++ replicate (16 - length p) 0) (sym (map-append bit (outcomes_of n h) (false ∷ []))))

-- a pattern is known from how it is returned
pub packed_injective : (p q : List Bool) → packed p ≡ packed q → p ≡ q
packed_injective p q e = go p q _ _ (ap (λ z. z.length) e) (ap (λ z. z.outcomes) e)
  where
    one : (a b : Bool) → bit a ≡ bit b → a ≡ b
    one true true f = refl
    one true false f = absurd (omega arith)
    one false true f = absurd (omega arith)
    one false false f = refl

    go : (p q : List Bool) (x y : List ℕ) → length p ≡ length q → map bit p ++ x ≡ map bit q ++ y → p ≡ q
    go [] [] x y l f = refl
    go [] (b ∷ q) x y l f = absurd (omega arith)
    go (a ∷ p) [] x y l f = absurd (omega arith)
    go (a ∷ p) (b ∷ q) x y l f =
        let g : bit a ≡ bit b = cc in
        let h : map bit p ++ x ≡ map bit q ++ y = cc in
        ap₂ {C = List Bool} (λ c r. c ∷ r) (one a b g) (go p q x y (omega arith) h)
