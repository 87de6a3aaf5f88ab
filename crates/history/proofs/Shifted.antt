-- A masked shift gives a history that the mask keeps, and where the mask is of ones that of the history machine. Assumes nothing.
use mathlib.Core.Path.{◌≡◌, ap, ◌∙◌}
use mathlib.Core.Bool.{Bool}
use Prim.Native.Nat.{ℕ, ◌+◌, ◌-◌, ◌*◌, ◌^◌, ◌≤◌, ◌<◌}
use native.Mathlib.Omega.{arith}
use lib.Bits.{bit_and, and_mask, and_le_r}
use Rattle.patterns.specs.Outcome.{bit}
use Rattle.history.specs.History.{shifted, pushed}

-- of n histories one follows that is among them
pub shifted_lt : (n h : ℕ) (o : Bool) → 1 ≤ n → shifted (n - 1) h o < n
unfolding shifted
shifted_lt n h o p = omega (arith, and_le_r (h * 2 + bit o) (n - 1))

pub shifted_pushed : (m mask h : ℕ) (o : Bool) → mask + 1 ≡ 2 ^ m → shifted mask h o ≡ pushed m h o
unfolding shifted
shifted_pushed m mask h o e =
    let ones : mask ≡ 2 ^ m - 1 = omega arith in
    ap (bit_and (h * 2 + bit o)) ones ∙ and_mask (h * 2 + bit o) m
