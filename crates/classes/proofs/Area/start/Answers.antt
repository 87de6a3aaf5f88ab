-- `classes::Area::start`: after all limits a mark is left where they leave it. Assumes nothing.
use native.Mathlib.Omega.{arith}
use lib.ListN.{length-take}
use Rattle.meaning.specs.declared.Limit.{Limit}
use Rattle.classes.proofs.Storing.{stores_then}
use Rattle.classes.proofs.Marks.{marked_all}
use Rattle.classes.proofs.Area.start.Goals as goal

pub returns : goal.returns
returns c =
    stores_then (marked_all c.args.set c.args.self.now.n c.loop-limit.limit-index _ _ _ (omega (arith, length-take {A = Limit}))) c.mark.ensures c.loop-limit.invariant
