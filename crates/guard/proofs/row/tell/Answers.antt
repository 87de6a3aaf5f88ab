-- `row::tell`: refused where the row has no such job, else what telling that job's guard gives. Assumes nothing.
use mathlib.Core.Path.{subst}
use Rattle.std.proofs.lemmas.List.{get_or_default}
use Rattle.std.proofs.lemmas.Result.{err_from_is_err_and}
use Rattle.guard.specs.Guard.{fresh, ToldAs}
use Rattle.guard.proofs.RowCalls.{tell_outside, tell_inside}
use Rattle.guard.proofs.row.tell.Goals as goal

pub returns-in_err-test_job : goal.returns-in_err-test_job
returns-in_err-test_job c =
    let a = c.args in
    let (e, j) = c.in_err-test_job.ensures in
    let p = err_from_is_err_and c.from_residual.result c.from_residual.ensures.1 in
    rw (p.1, p.2, j) (tell_outside a.row.now a.job a.table.now e a.outcome)

pub returns : goal.returns
returns c =
    let a = c.args in
    let (e, l) = c.in_ok-test_job.ensures in
    tell_inside a.row.now a.job a.table.now e a.outcome c.hear.result c.hear.new.self
    (subst (λ g. ToldAs a.table.now g a.outcome c.hear.result c.hear.new.self) (get_or_default a.row.now a.job _ fresh l) c.hear.ensures)
