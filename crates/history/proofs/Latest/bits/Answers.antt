-- `history::Latest::bits`: a mask of n ones leaves the n low bits. Assumes nothing.
use mathlib.Core.Path.{◌≡◌, ap, ◌∙◌}
use Prim.Native.Nat.{ℕ, ◌-◌, ◌*◌, ◌%◌, ◌^◌, ◌<◌}
use native.Mathlib.Omega.{arith}
use lib.Bits.{bit_and, and_mask}
use lib.Dec.{lit<}
use lib.Pow.{shl_exact}
use Rattle.history.proofs.Latest.bits.Goals as goal

shifted_one : (n : ℕ) → n < 32 → 1 * 2 ^ n % 4294967296 ≡ 2 ^ n
shifted_one n h = let one : 1 * 2 ^ n ≡ 2 ^ n = omega arith in shl_exact 1 n 32 (lit< tt) (omega arith) ∙ one

pub returns : goal.returns
returns c =
    let l = c.args.self in
    ap (λ z. bit_and l.history (z - 1)) (shifted_one l.n l.fits) ∙ and_mask l.history l.n
