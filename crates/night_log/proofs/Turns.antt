-- The number that the outcomes of a byte write, as the writer makes it, outcome by outcome. Assumes nothing.
use mathlib.Core.Bool.{Bool}
use mathlib.Core.List.{List}
use Prim.Native.Nat.{ℕ, zero, suc, ◌+◌, ◌*◌, ◌^◌, ◌<◌}
use native.Mathlib.Omega.{arith}
use lib.Pow.{pow_mono}
use Rattle.patterns.specs.Outcome.{bit}
use Rattle.patterns.proofs.Numbers.{bit_le}
use Rattle.night_log.specs.Bytes.{outcome_at}

-- the number that the n outcomes from outcome i on write, the oldest in the highest bit
abbrev pub bits_from : List Bool → (i n : ℕ) → ℕ
bits_from p i zero = 0
bits_from p i (suc n) = bits_from p i n * 2 + bit (outcome_at p (i + n))

module _ (p : List Bool) (i : ℕ) where
  bits_within : (n : ℕ) → bits_from p i n < 2 ^ n
  bits_within zero = omega arith
  bits_within (suc n) = omega (arith, bits_within n, bit_le (outcome_at p (i + n)))

  -- with fewer than eight there is room for one more
  pub bits_room : (n : ℕ) → n < 8 → bits_from p i n < 128
  bits_room n h = omega (arith, bits_within n, pow_mono {i = n} {j = 7} (omega arith))
