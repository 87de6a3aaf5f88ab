-- What number a pattern writes: below 2 to its length, twice as large and the new outcome with one more, and different for patterns of one length. Assumes nothing.
use mathlib.Core.Path.{◌≡◌, refl, sym, ap, ◌∙◌, subst}
use mathlib.Core.Bool.{Bool, true, false}
use mathlib.Core.List.{List, [], ◌∷◌, ◌++◌}
use Prim.Native.Nat.{ℕ, zero, suc, ◌+◌, ◌*◌, ◌^◌, ◌≤◌, ◌<◌}
use native.Mathlib.Nat.{pow-suc}
use native.Mathlib.Omega.{arith}
use lib.ListN.{length, replicate, length-append, length-replicate}
use Rattle.patterns.specs.Outcome.{bit}
use Rattle.patterns.specs.Number.{number}

pub bit_le : (b : Bool) → bit b ≤ 1
bit_le true = omega arith
bit_le false = omega arith

pub length_snoc : (p : List Bool) (b : Bool) → length (p ++ b ∷ []) ≡ suc (length p)
length_snoc p b = omega (arith, length-append p (b ∷ []))

pub number_lt : (p : List Bool) → number p < 2 ^ length p
number_lt [] = omega arith
number_lt (true ∷ p) = omega (arith, number_lt p, pow-suc 2 (length p))
number_lt (false ∷ p) = omega (arith, number_lt p, pow-suc 2 (length p))

pub number_snoc : (p : List Bool) (b : Bool) → number (p ++ b ∷ []) ≡ number p * 2 + bit b
number_snoc [] b = omega arith
number_snoc (a ∷ p) b = go a (number_snoc p b)
  where
    q : 2 ^ length (p ++ b ∷ []) ≡ 2 ^ length p * 2
    q = ap (λ z. 2 ^ z) (length_snoc p b) ∙ pow-suc 2 (length p)

    go : (a : Bool) → number (p ++ b ∷ []) ≡ number p * 2 + bit b → number (a ∷ (p ++ b ∷ [])) ≡ number (a ∷ p) * 2 + bit b
    go true ih = omega (arith, q)
    go false ih = omega (arith, q)

-- the number of a pattern of hits is the largest
pub number_hits : (n : ℕ) → number (replicate n true) + 1 ≡ 2 ^ n
number_hits zero = refl
number_hits (suc n) = omega (arith, number_hits n, pow-suc 2 n, ap (λ z. 2 ^ z) (length-replicate n true))

pub number_injective : (p q : List Bool) → length p ≡ length q → number p ≡ number q → p ≡ q
number_injective [] [] l e = refl
number_injective [] (b ∷ q) l e = absurd (omega arith)
number_injective (a ∷ p) [] l e = absurd (omega arith)
number_injective (a ∷ p) (b ∷ q) l e = go a b (number_injective p q (omega arith)) e
  where
    m : length p ≡ length q
    m = omega arith

    low : number q < 2 ^ length p
    low = subst (λ z. number q < 2 ^ z) (sym m) (number_lt q)

    same : 2 ^ length q ≡ 2 ^ length p
    same = ap (λ z. 2 ^ z) (sym m)

    go : (a b : Bool) → (number p ≡ number q → p ≡ q) → number (a ∷ p) ≡ number (b ∷ q) → a ∷ p ≡ b ∷ q
    go true true ih e = ap {B = List Bool} (λ z. true ∷ z) (ih (omega (arith, same)))
    go false false ih e = ap {B = List Bool} (λ z. false ∷ z) (ih (omega arith))
    go true false ih e = absurd (omega (arith, same, low, number_lt p))
    go false true ih e = absurd (omega (arith, same, low, number_lt p))
