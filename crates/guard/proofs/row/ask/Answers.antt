-- `row::ask`: refused where the row has no such job, else what asking that job's guard gives. Assumes nothing.
use mathlib.Core.Path.{subst}
use Rattle.std.proofs.lemmas.List.{get_or_default}
use Rattle.std.proofs.lemmas.Result.{err_from_is_err_and}
use Rattle.guard.specs.Guard.{fresh, AskedAs}
use Rattle.guard.proofs.RowCalls.{ask_outside, ask_inside}
use Rattle.guard.proofs.row.ask.Goals as goal

pub returns-in_err-test_job : goal.returns-in_err-test_job
returns-in_err-test_job c =
    let a = c.args in
    let (e, j) = c.in_err-test_job.ensures in
    let p = err_from_is_err_and c.from_residual.result c.from_residual.ensures.1 in
    rw (p.1, p.2, j) (ask_outside a.row.now a.job a.table.now e)

pub returns : goal.returns
returns c =
    let a = c.args in
    let (e, l) = c.in_ok-test_job.ensures in
    ask_inside a.row.now a.job a.table.now e c.says.result _
    (subst (λ g. AskedAs a.table.now g c.says.result g) (get_or_default a.row.now a.job _ fresh l) c.says.ensures)
