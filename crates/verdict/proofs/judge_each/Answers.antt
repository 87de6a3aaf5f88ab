-- `verdict::judge_each` meets its contract: the invariant is that the outcomes so far stand. Assumes nothing.
use native.Mathlib.Omega.{arith}
use Rattle.verdict.proofs.Turns.{stands_first, stands_last, turned_kept, turned_lost, turned_within}
use Rattle.verdict.proofs.judge_each.Goals as goal

pub loop-i-init : goal.loop-i-init
loop-i-init g c = record { within = omega arith; stands = λ p e f. stands_first c.args.set p c.requires.allowed }

pub returns-in-Err : goal.returns-in-Err
returns-in-Err g c = λ p e f.
    turned_lost c.args.set c.requires.allowed p c.loop-i.i c.loop-i.history (omega arith) (c.loop-i.invariant.stands p e f) c.outcome.result (f c.loop-i.i c.outcome.result (omega arith) c.outcome.ensures)
    c.in-Err.limit c.in-Err.ensures c.lost_by.result c.lost_by.ensures

pub loop-i-preserved : goal.loop-i-preserved
loop-i-preserved g c = record {
  within = turned_within c.args.set c.loop-i.history c.outcome.result c.in-Ok.next c.in-Ok.ensures;
  stands = λ p e f.
      turned_kept c.args.set c.requires.allowed p c.loop-i.i c.loop-i.history (omega arith) (c.loop-i.invariant.stands p e f) c.outcome.result (f c.loop-i.i c.outcome.result (omega arith) c.outcome.ensures)
      c.in-Ok.next c.in-Ok.ensures;
}

pub returns : goal.returns
returns g c = λ p e f. stands_last c.args.set p c.loop-i.i c.loop-i.history (omega arith) (c.loop-i.invariant.stands p e f)
