-- The order of patterns is the order of their codes, so what comes first is a question of numbers. Assumes nothing.
use mathlib.Core.Path.{◌≡◌, refl, ap}
use mathlib.Core.Logic.{◌↔◌, dite}
use mathlib.Core.Bool.{Bool, true, false}
use mathlib.Core.List.{List, [], ◌∷◌, ◌++◌}
use Prim.Native.Nat.{suc, ◌+◌, ◌*◌, ◌^◌, ◌≤◌, ◌<◌}
use native.Mathlib.Nat.{pow-suc}
use native.Mathlib.Decide.{dec_lt}
use native.Mathlib.Omega.{arith}
use lib.Pow.{pow_mono}
use lib.ListN.{length, length-append}
use Rattle.patterns.specs.Outcome.{bit}
use Rattle.patterns.specs.Number.{number, code}
use Rattle.patterns.specs.Order.{MissFirst, NoLater, same, shorter, miss_first}
use Rattle.patterns.proofs.Numbers.{number_lt, number_snoc, number_injective, length_snoc}

pub code_snoc : (p : List Bool) (b : Bool) → code (p ++ b ∷ []) ≡ code p * 2 + bit b
code_snoc p b = omega (arith, number_snoc p b, pow-suc 2 (length p), ap (λ z. 2 ^ z) (length_snoc p b))

pub code_positive : (p : List Bool) → 1 ≤ code p
code_positive [] = omega arith
code_positive (b ∷ p) = omega (arith, code_positive p, pow-suc 2 (length p), number_lt (b ∷ p), number_lt p)

-- a shorter pattern has the smaller code
pub code_shorter : (p q : List Bool) → length p < length q → code p < code q
code_shorter p q h = omega (arith, number_lt p, pow-suc 2 (length p), pow_mono {i = suc (length p)} {j = length q} h)

-- of two patterns of one length, the one with the miss at the first difference has the smaller number
missing_smaller : (t r o : List Bool) → length r ≡ length o → number (t ++ (false ∷ r)) < number (t ++ (true ∷ o))
missing_smaller [] r o e = omega (arith, number_lt r, ap (λ z. 2 ^ z) e)
missing_smaller (b ∷ t) r o e =
    let l : length (t ++ (false ∷ r)) ≡ length (t ++ (true ∷ o)) = omega (arith, length-append t (false ∷ r), length-append t (true ∷ o)) in
    omega (arith, missing_smaller t r o e, ap (λ z. bit b * 2 ^ z) l)

pub miss_first_number : (p q : List Bool) → length p ≡ length q → MissFirst p q → number p < number q
miss_first_number p q l (t, r, o, e, f) =
    let m : length r ≡ length o = omega (arith, ap length e, ap length f, length-append t (false ∷ r), length-append t (true ∷ o)) in
    omega (arith, missing_smaller t r o m, ap number e, ap number f)

pub number_miss_first : (p q : List Bool) → length p ≡ length q → number p < number q → MissFirst p q
number_miss_first [] q l h = absurd (omega (arith, number_lt q, ap (λ z. 2 ^ z) l))
number_miss_first (a ∷ p) [] l h = absurd (omega arith)
number_miss_first (a ∷ p) (b ∷ q) l h = go a b (number_miss_first p q (omega arith)) h
  where
    m : 2 ^ length q ≡ 2 ^ length p
    m = ap (λ z. 2 ^ z) (omega arith)

    go : (a b : Bool) → (number p < number q → MissFirst p q) → number (a ∷ p) < number (b ∷ q) → MissFirst (a ∷ p) (b ∷ q)
    go false true ih h = ([], p, q, refl, refl)
    go true false ih h = absurd (omega (arith, m, number_lt q, number_lt p))
    go true true ih h =
        let (t, r, o, e, f) = ih (omega (arith, m)) in
        (true ∷ t, r, o, ap {B = List Bool} (λ z. true ∷ z) e, ap {B = List Bool} (λ z. true ∷ z) f)
    go false false ih h =
        let (t, r, o, e, f) = ih (omega arith) in
        (false ∷ t, r, o, ap {B = List Bool} (λ z. false ∷ z) e, ap {B = List Bool} (λ z. false ∷ z) f)

pub no_later_code : (p q : List Bool) → NoLater p q ↔ (code p ≤ code q)
no_later_code p q = (to, from)
  where
    to : NoLater p q → code p ≤ code q
    to (same e) = omega (arith, ap code e)
    to (shorter h) = omega (arith, code_shorter p q h)
    to (miss_first l m) = omega (arith, miss_first_number p q l m, ap (λ z. 2 ^ z) l)

    from : code p ≤ code q → NoLater p q
    from h =
        dite (dec_lt (length p) (length q)) shorter (λ g.
        dite (dec_lt (length q) (length p)) (λ f. absurd (omega (arith, code_shorter q p f))) (λ f.
        let l : length p ≡ length q = omega arith in
        dite (dec_lt (number p) (number q)) (λ n. miss_first l (number_miss_first p q l n)) (λ n.
        same (number_injective p q l (omega (arith, ap (λ z. 2 ^ z) l))))))

-- different patterns have different codes
pub code_injective : (p q : List Bool) → code p ≡ code q → p ≡ q
code_injective p q e = go ((no_later_code p q).1 (omega arith))
  where
    go : NoLater p q → p ≡ q
    go (same s) = s
    go (shorter h) = absurd (omega (arith, code_shorter p q h))
    go (miss_first l m) = absurd (omega (arith, miss_first_number p q l m, ap (λ z. 2 ^ z) l))

pub no_later_antisym : (p q : List Bool) → NoLater p q → NoLater q p → p ≡ q
no_later_antisym p q a b = code_injective p q (omega (arith, (no_later_code p q).0 a, (no_later_code q p).0 b))

pub no_later_length : (p q : List Bool) → NoLater p q → length p ≤ length q
no_later_length p q (same e) = omega (arith, ap length e)
no_later_length p q (shorter h) = omega arith
no_later_length p q (miss_first l m) = omega arith
