-- Numbers of four and of eight bytes: what the bytes of a number write, what bytes that stand past others write, and the bytes that were read, written again. Assumes nothing.
use mathlib.Core.Path.{◌≡◌, ap, ap₂, ◌∙◌}
use mathlib.Core.List.{List, ◌++◌}
use Prim.Native.Nat.{ℕ, suc, ◌+◌, ◌*◌, ◌/◌, ◌%◌, ◌≤◌, ◌<◌}
use native.Mathlib.Numerals.{add-one, add-two, add-three, add-four}
use native.Mathlib.Omega.{arith}
use lib.ListN.{length, drop}
use lib.Seq.{get_or-append-add, drop-cons}
use Rattle.layout.specs.Bytes.{byte_at, four_at, four_bytes, eight_at, eight_bytes}

pub four_number : (n : ℕ) → four_at (four_bytes n) 0 ≡ n
four_number n = omega arith

pub eight_number : (n : ℕ) (q : List ℕ) → eight_at (eight_bytes n ++ q) 0 ≡ n
eight_number n q = omega (arith, four_number (n / 4294967296), four_number (n % 4294967296))

-- bytes that stand past others
module _ (p q : List ℕ) where
  byte_past : (k n : ℕ) → n ≡ length p + k → byte_at (p ++ q) n ≡ byte_at q k
  byte_past k n e = ap (byte_at (p ++ q)) e ∙ get_or-append-add p q k 0

  four_past : (k n : ℕ) → n ≡ length p + k → four_at (p ++ q) n ≡ four_at q k
  four_past k n e = cc (byte_past k n e, byte_past (k + 1) (n + 1) (omega arith), byte_past (k + 2) (n + 2) (omega arith), byte_past (k + 3) (n + 3) (omega arith))

  pub eight_past : (n : ℕ) → n ≡ length p → eight_at (p ++ q) n ≡ eight_at q 0
  eight_past n e = ap₂ (λ a b. a * 4294967296 + b) (four_past 0 n (omega arith)) (four_past 4 (n + 4) (omega arith))

-- the numbers that bytes write, as bytes again
module _ (b : List ℕ) (bytes : (i : ℕ) → byte_at b i < 256) where
  four_lt : (i : ℕ) → four_at b i < 4294967296
  four_lt i = omega (arith, bytes i, bytes (i + 1), bytes (i + 2), bytes (i + 3))

  pub four_off : (i : ℕ) → i + 4 ≤ length b → four_bytes (four_at b i) ++ drop (i + 4) b ≡ drop i b
  four_off i h =
      let h₁ = bytes (i + 1) in
      let h₂ = bytes (i + 2) in
      let h₃ = bytes (i + 3) in
      let e₀ : four_at b i / 16777216 ≡ byte_at b i = omega arith in
      let e₁ : four_at b i / 65536 % 256 ≡ byte_at b (i + 1) = omega arith in
      let e₂ : four_at b i / 256 % 256 ≡ byte_at b (i + 2) = omega arith in
      let e₃ : four_at b i % 256 ≡ byte_at b (i + 3) = omega arith in
      cc (add-one i, add-two i, add-three i, add-four i, drop-cons b i 0 (omega arith), drop-cons b (suc i) 0 (omega arith), drop-cons b (suc (suc i)) 0 (omega arith), drop-cons b (suc (suc (suc i))) 0 (omega arith))

  pub eight_off : (i : ℕ) → i + 8 ≤ length b → eight_bytes (eight_at b i) ++ drop (i + 8) b ≡ drop i b
  eight_off i h =
      let high : eight_at b i / 4294967296 ≡ four_at b i = omega (arith, four_lt (i + 4)) in
      let low : eight_at b i % 4294967296 ≡ four_at b (i + 4) = omega (arith, four_lt (i + 4)) in
      let past : i + 8 ≡ i + 4 + 4 = omega arith in
      ap₂ (λ x y. four_bytes x ++ (four_bytes y ++ drop (i + 8) b)) high low
      ∙ ap (λ k. four_bytes (four_at b i) ++ (four_bytes (four_at b (i + 4)) ++ drop k b)) past
      ∙ ap (λ z. four_bytes (four_at b i) ++ z) (four_off (i + 4) (omega arith))
      ∙ four_off i (omega arith)
