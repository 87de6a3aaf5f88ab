-- `carry::write::put_outcomes` meets its contract: one outcome's byte more. Assumes nothing.
use native.Mathlib.Omega.{arith}
use lib.ListN.{length-map}
use Rattle.layout.proofs.Runs.{pasted_turn}
use Rattle.patterns.specs.Outcome.{bit}
use Rattle.carry.proofs.Writing.{cast_at}
use Rattle.carry.proofs.write.put_outcomes.Goals as goal

pub loop-i-preserved : goal.loop-i-preserved
loop-i-preserved c =
    let l = c.loop-i in
    let os = c.args.outcomes in
    pasted_turn l.invariant _ (omega arith) (omega (arith, c.well_formed.0, length-map os bit)) (cast_at os l.i)
