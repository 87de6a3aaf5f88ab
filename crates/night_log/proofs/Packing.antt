-- The packed bytes: how many there are, which bit of which is which outcome, and that a byte is known from its eight bits. A byte's bits are told by induction over how many outcomes it has. Assumes nothing.
use mathlib.Core.Path.{◌≡◌, refl, sym, ap, ap₂, ◌∙◌}
use mathlib.Core.Logic.{dite}
use mathlib.Core.Bool.{Bool, false}
use mathlib.Core.List.{List, [], ◌∷◌}
use Prim.Native.Nat.{ℕ, zero, suc, ◌+◌, ◌-◌, ◌*◌, ◌/◌, ◌%◌, ◌^◌, ◌≤◌, ◌<◌}
use native.Mathlib.Nat.{add-zero, zero-add, zero-div, zero-mod, mod-eq_of_lt}
use native.Mathlib.Numerals.{towards_suc}
use native.Mathlib.Decide.{dec_lt}
use native.Mathlib.Omega.{arith}
use lib.ListN.{length, get_or, get_or-eq_default}
use lib.Pow.{high, low, field, mod-pow-add, mod-mod-pow}
use Rattle.patterns.specs.Outcome.{outcome, bit}
use Rattle.patterns.specs.Number.{number}
use Rattle.patterns.proofs.Numbers.{bit_le, number_lt}
use Rattle.patterns.proofs.Outcomes.{outcome_bit, bit_outcome}
use Rattle.night_log.specs.Bytes.{outcome_at, byte_from, packed}

module _ (p : List Bool) where
  pub packed_length : (j n : ℕ) → length (packed p j n) ≡ n
  unfolding packed
  packed_length j zero = refl
  packed_length j (suc n) = ap suc (packed_length (suc j) n)

  pub packed_at : (j n k : ℕ) → k < n → get_or (packed p j n) k 0 ≡ byte_from p (8 * (j + k))
  unfolding packed
  packed_at j zero k h = absurd (omega arith)
  packed_at j (suc n) zero h = ap (λ z. byte_from p (8 * z)) (sym (add-zero j))
  packed_at j (suc n) (suc k) h = let e : suc j + k ≡ j + suc k = omega arith in packed_at (suc j) n k (omega arith) ∙ ap (λ z. byte_from p (8 * z)) e

  pub packed_byte : (n k : ℕ) → k < n → get_or (packed p 0 n) k 0 ≡ byte_from p (8 * k)
  packed_byte n k h = packed_at 0 n k h ∙ ap (λ z. byte_from p (8 * z)) (zero-add k)

-- bit k is among the n low ones
low_bit : (x n k : ℕ) → k < n → x % 2 ^ n / 2 ^ k % 2 ≡ x / 2 ^ k % 2
low_bit x n k h =
    let j = n - suc k in
    let e : n ≡ j + 1 + k = omega arith in
    ap (λ m. x % 2 ^ m / 2 ^ k % 2) e ∙ ap (λ z. z % 2) (field x (j + 1) k) ∙ mod-mod-pow (x / 2 ^ k) j 1

-- numbers with the same n low bits
same_low : (x y n : ℕ) → ((k : ℕ) → k < n → x / 2 ^ k % 2 ≡ y / 2 ^ k % 2) → x % 2 ^ n ≡ y % 2 ^ n
same_low x y zero h = omega arith
same_low x y (suc n) h = more x ∙ ap₂ (λ b r. b * 2 ^ n + r) (h n (omega arith)) (same_low x y n (λ k l. h k (omega arith))) ∙ sym (more y)
  where
    more : (z : ℕ) → z % 2 ^ suc n ≡ z / 2 ^ n % 2 * 2 ^ n + z % 2 ^ n
    more z = let e : suc n ≡ 1 + n = omega arith in ap (λ m. z % 2 ^ m) e ∙ mod-pow-add z 1 n

-- a bit before n others
bit_below : (o n k : ℕ) {r : ℕ} → r < 2 ^ n → k < n → (o * 2 ^ n + r) / 2 ^ k % 2 ≡ r / 2 ^ k % 2
bit_below o n k {r} l h = sym (low_bit (o * 2 ^ n + r) n k h) ∙ ap (λ z. z / 2 ^ k % 2) (low o n l)

bit_top : (o n : ℕ) {r : ℕ} → o ≤ 1 → r < 2 ^ n → (o * 2 ^ n + r) / 2 ^ n % 2 ≡ o
bit_top o n h l = ap (λ z. z % 2) (high o n l) ∙ mod-eq_of_lt (omega arith)

module _ (p : List Bool) where
  -- the n outcomes from outcome i on, misses past the last one
  abbrev run : (i n : ℕ) → List Bool
  run i zero = []
  run i (suc n) = outcome_at p i ∷ run (suc i) n

  run_length : (i n : ℕ) → length (run i n) ≡ n
  run_length i zero = refl
  run_length i (suc n) = ap suc (run_length (suc i) n)

  run_lt : (i n : ℕ) → number (run i n) < 2 ^ n
  run_lt i n = rw (run_length i n) at (number_lt (run i n))

  run_bit : (i n k : ℕ) → k < n → number (run i n) / 2 ^ k % 2 ≡ bit (outcome_at p (i + n - suc k))
  run_bit i zero k h = absurd (omega arith)
  run_bit i (suc n) k h =
      let o = bit (outcome_at p i) in
      let r = number (run (suc i) n) in
      let l = run_lt (suc i) n in
      ap (λ z. (o * 2 ^ z + r) / 2 ^ k % 2) (run_length (suc i) n)
      ∙ dite (dec_lt k n)
      (λ below. let e : suc i + n - suc k ≡ i + suc n - suc k = omega arith in bit_below o n k l below ∙ run_bit (suc i) n k below ∙ ap (λ z. bit (outcome_at p z)) e)
      (λ top.
      let e : k ≡ n = omega arith in
      let f : i ≡ i + suc n - suc k = omega arith in
      ap (λ z. (o * 2 ^ n + r) / 2 ^ z % 2) e ∙ bit_top o n (bit_le (outcome_at p i)) l ∙ ap (λ z. bit (outcome_at p z)) f)

  byte_run : (i : ℕ) → byte_from p i ≡ number (run i 8)
  byte_run i = simp towards_suc

  pub byte_lt : (i : ℕ) → byte_from p i < 256
  byte_lt i = rw (byte_run i) (run_lt i 8)

  byte_digit : (i k : ℕ) → k < 8 → byte_from p i / 2 ^ k % 2 ≡ bit (outcome_at p (i + (7 - k)))
  byte_digit i k h =
      let e : i + 8 - suc k ≡ i + (7 - k) = omega arith in
      ap (λ z. z / 2 ^ k % 2) (byte_run i) ∙ run_bit i 8 k h ∙ ap (λ z. bit (outcome_at p z)) e

  -- the outcomes of a byte are its bits, from the high one down
  pub byte_bit : (i r : ℕ) → r < 8 → outcome (byte_from p i / 2 ^ (7 - r) % 2) ≡ outcome_at p (i + r)
  byte_bit i r h =
      let e : i + (7 - (7 - r)) ≡ i + r = omega arith in
      ap outcome (byte_digit i (7 - r) (omega arith)) ∙ outcome_bit _ ∙ ap (outcome_at p) e

  -- where the pattern ends within a byte, the bits below are zero
  pub byte_low : (i n : ℕ) → n ≤ 8 → length p + n ≤ i + 8 → byte_from p i % 2 ^ n ≡ 0
  byte_low i n h l =
      same_low (byte_from p i) 0 n (λ k g.
      byte_digit i k (omega arith) ∙ ap bit (get_or-eq_default p false (omega arith)) ∙ sym (ap (λ z. z % 2) (zero-div (2 ^ k))))
      ∙ zero-mod (2 ^ n)

  -- a byte is known from its bits
  pub byte_back : (i x : ℕ) → x < 256 → ((r : ℕ) → r < 8 → outcome_at p (i + r) ≡ outcome (x / 2 ^ (7 - r) % 2)) → byte_from p i ≡ x
  byte_back i x h same =
      sym (mod-eq_of_lt (byte_lt i))
      ∙ same_low (byte_from p i) x 8 (λ k g.
      let f : 7 - (7 - k) ≡ k = omega arith in
      byte_digit i k g ∙ ap bit (same (7 - k) (omega arith)) ∙ bit_outcome _ (omega arith) ∙ ap (λ z. x / 2 ^ z % 2) f)
      ∙ mod-eq_of_lt h

-- and where the low bits are zero, so is each of them
pub zero_bit : (x n r : ℕ) → r < 8 → 8 ≤ r + n → x % 2 ^ n ≡ 0 → outcome (x / 2 ^ (7 - r) % 2) ≡ false
zero_bit x n r h l e =
    ap outcome (sym (low_bit x n (7 - r) (omega arith)) ∙ ap (λ z. z / 2 ^ (7 - r) % 2) e ∙ ap (λ z. z % 2) (zero-div (2 ^ (7 - r))))
