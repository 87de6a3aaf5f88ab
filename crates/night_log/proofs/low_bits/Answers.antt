-- `night_log::low_bits` meets its contract: a mask of n ones leaves the remainder by 2 ^ n. Assumes nothing.
use mathlib.Core.Path.{◌≡◌, ap, ◌∙◌}
use Prim.Native.Nat.{◌*◌, ◌-◌, ◌%◌, ◌^◌}
use native.Mathlib.Nat.{one-mul}
use native.Mathlib.Omega.{arith}
use lib.Bits.{bit_and, and_mask}
use lib.Pow.{shl_exact}
use Rattle.night_log.proofs.low_bits.Goals.{Start}
use Rattle.night_log.proofs.low_bits.Goals as goal

power : (c : Start) → (1 * 2 ^ c.args.n) % 2 ^ 8 ≡ 2 ^ c.args.n
power c = shl_exact {a = 1} 1 c.args.n 8 (omega arith) (omega arith) ∙ one-mul (2 ^ c.args.n)

pub returns : goal.returns
returns c = ap (λ z. bit_and c.args.byte (z - 1)) (power (goal.at.returns c).Start) ∙ and_mask c.args.byte c.args.n
