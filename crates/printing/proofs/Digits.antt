-- The fewest digits that hold a number are its decimal digits: one turn of the definition takes the last digit off. Assumes nothing.
use mathlib.Core.Path.{◌≡◌, refl, sym, ap, ap₂, ◌∙◌}
use mathlib.Core.List.{[], ◌∷◌, ◌++◌}
use Prim.Native.Nat.{ℕ, zero, suc, ◌-◌, ◌/◌, ◌%◌, ◌^◌, ◌≤◌, ◌<◌}
use native.Mathlib.Nat.{pow-suc}
use native.Mathlib.Omega.{arith}
use borrow.Author.Tests.{lt-ltb, le-ltb}
use Rattle.io.specs.Digits.{hex_digit_ascii, last_digits, IsDigitCount}
use Rattle.printing.specs.Text.{digit, decimal_in, decimal}

pub one_digit : (turns n : ℕ) → n < 10 → decimal_in turns n ≡ digit n ∷ []
unfolding decimal_in
one_digit zero n h = refl
one_digit (suc k) n h = rw (lt-ltb n 10 h)

pub more_digits : (turns n : ℕ) → 10 ≤ n → decimal_in (suc turns) n ≡ decimal_in turns (n / 10) ++ digit (n % 10) ∷ []
unfolding decimal_in
more_digits k n h = rw (le-ltb n 10 h)

glyph_digit : (d : ℕ) → d < 10 → hex_digit_ascii d ≡ digit d
glyph_digit d h = rw (lt-ltb d 10 h)

fewest_in : (turns r n : ℕ) → r ≤ suc turns → IsDigitCount 10 1 n r → last_digits 10 r n ≡ decimal_in turns n
fewest_in turns zero n l (a, b, c) = absurd (omega arith)
fewest_in turns (suc zero) n l (a, b, c) =
    let e : n % 10 ≡ n = omega arith in
    ap (λ d. d ∷ []) (ap hex_digit_ascii e ∙ glyph_digit n b) ∙ sym (one_digit turns n b)
fewest_in zero (suc (suc k)) n l f = absurd (omega arith)
fewest_in (suc turns) (suc (suc k)) n l (a, b, c) =
    let p = pow-suc 10 (suc k) in
    let q = pow-suc 10 k in
    let e : suc (suc k) - 1 ≡ suc k = omega arith in
    let h : 10 ^ suc k ≤ n = rw e at (c (omega arith)) in
    let f : IsDigitCount 10 1 (n / 10) (suc k) = (
      omega arith,
      omega arith,
      λ m.
          let g : suc k - 1 ≡ k = omega arith in
          rw g (omega arith),
    ) in
    ap₂ (λ x d. x ++ d ∷ []) (fewest_in turns (suc k) (n / 10) (omega arith) f) (glyph_digit (n % 10) (omega arith)) ∙ sym (more_digits turns n (omega arith))

below_power : (k : ℕ) → k < 10 ^ k
below_power zero = omega arith
below_power (suc k) = omega (arith, below_power k, pow-suc 10 k)

few_turns : (r n : ℕ) → IsDigitCount 10 1 n r → r ≤ suc n
few_turns zero n f = omega arith
few_turns (suc zero) n f = omega arith
few_turns (suc (suc k)) n (a, b, c) =
    let e : suc (suc k) - 1 ≡ suc k = omega arith in
    let h : 10 ^ suc k ≤ n = rw e at (c (omega arith)) in
    omega (arith, below_power (suc k))

pub fewest_decimal : (r n : ℕ) → IsDigitCount 10 1 n r → last_digits 10 r n ≡ decimal n
fewest_decimal r n f = fewest_in n r n (few_turns r n f) f
