-- `sets::write::test_memory` meets its contract: the count's row decides, and where it is passed the rows of the limits do. Assumes nothing.
use mathlib.Core.Path.{sym, ◌∙◌}
use mathlib.Core.List.{[], ◌∷◌}
use native.Mathlib.Omega.{arith}
use Rattle.std.proofs.lemmas.Result.{err_from_is_err_and}
use Rattle.layout.proofs.Rows.{passed_first, refused_before, passed_before}
use Rattle.sets.specs.Rows.{count_row, test_rows}
use Rattle.sets.proofs.Accepted.{within}
use Rattle.sets.proofs.write.test_memory.Goals as goal

pub returns-in_err-test_count : goal.returns-in_err-test_count
returns-in_err-test_count c =
    let s = c.args in
    let p = err_from_is_err_and c.from_residual.result c.from_residual.ensures.1 in
    rw (p.1, p.2) (sym (refused_before (count_row s.set.count ∷ []) (test_rows s.widest s.set) (sym c.in_err-test_count.ensures)))

pub test_limits-requires : goal.test_limits-requires
test_limits-requires c = let a = within 8 c.args.set.count (passed_first _ _ (sym c.in_ok-test_count.ensures)).0 in omega arith

pub returns : goal.returns
returns c =
    let s = c.args in
    c.test_limits.ensures ∙ sym (passed_before (count_row s.set.count ∷ []) (test_rows s.widest s.set) (sym c.in_ok-test_count.ensures))
