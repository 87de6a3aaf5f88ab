-- `builder::area_size`: a shift of 4 is four times a power of 2. Assumes nothing.
use native.Mathlib.Omega.{arith}
use Prim.Native.Nat.{◌-◌}
use lib.Pow.{shl_exact}
use Rattle.builder.proofs.area_size.Goals as goal

pub returns : goal.returns
returns c = shl_exact {a = 4} 3 (c.args.widest - 1) 64 (omega arith) (omega arith)
