-- `carry::write::put_set` meets its contract: one byte of the set more. Assumes nothing.
use mathlib.Core.Path.{refl}
use native.Mathlib.Omega.{arith}
use lib.ListN.{length-set}
use Rattle.layout.proofs.Runs.{pasted_turn}
use Rattle.carry.proofs.write.put_set.Goals as goal

pub loop-i-preserved : goal.loop-i-preserved
loop-i-preserved c = pasted_turn c.loop-i.invariant _ (omega (arith, length-set c.put_four.new.out 4 2)) (omega arith) refl
