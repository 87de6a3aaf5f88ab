-- `history::before_row`: at each turn's start the run has fewer than x hits, so that no row is passed; the outcome that makes them x is in a row. Assumes nothing.
use mathlib.Core.Path.{◌≡◌}
use Prim.Native.Nat.{◌+◌}
use native.Mathlib.Omega.{arith}
use Rattle.history.proofs.Passed.{none_passed, passed_more, passed_none, passed_row, row_stays}
use Rattle.history.proofs.before_row.Goals as goal

pub loop-passed-init : goal.loop-passed-init
loop-passed-init c = (omega arith, none_passed c.args.x c.args.history (omega arith))

pub returns-then-x-run : goal.returns-then-x-run
returns-then-x-run c =
    let a = c.args in
    let l = c.loop-passed in
    let p = passed_more l.invariant.1 c.next_run-run.result c.next_run-run.ensures (omega arith) in (
      omega arith,
      passed_none l.invariant.1 (omega arith),
      λ b f g. row_stays a.x a.history (l.passed + 1) b (omega arith) (passed_row p (omega arith)),
    )

pub loop-passed-preserved : goal.loop-passed-preserved
loop-passed-preserved c = (omega arith, passed_more c.loop-passed.invariant.1 c.next_run-run.result c.next_run-run.ensures (omega arith))

pub returns : goal.returns
returns c =
    let l = c.loop-passed in
    let all : l.passed ≡ c.args.n = omega arith in
    (omega arith, rw (← all) (passed_none l.invariant.1 (omega arith)), λ b f g. absurd (omega arith))
