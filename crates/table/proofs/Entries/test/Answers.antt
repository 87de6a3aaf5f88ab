-- `Entries::test`: the rows of all entries are those from the current state on. Assumes nothing.
use mathlib.Core.Path.{sym, ◌∙◌}
use native.Mathlib.Omega.{arith}
use Rattle.std.proofs.lemmas.Result.{err_from_is_err_and}
use Rattle.table.proofs.Turns.{entries_refused, entries_go_on, entries_end}
use Rattle.table.proofs.Entries.test.Goals as goal

pub returns-in_err-moves : goal.returns-in_err-moves
returns-in_err-moves c =
    let a = c.args in
    let p = err_from_is_err_and c.from_residual.result c.from_residual.ensures.1 in
    rw (p.1, p.2) (sym (c.loop-state.invariant ∙ entries_refused a.self.bytes.now a.self.states c.loop-state.state (omega arith) (sym c.in_err-moves.ensures.0)))

pub loop-state-preserved : goal.loop-state-preserved
loop-state-preserved c =
    let a = c.args in
    c.loop-state.invariant ∙ entries_go_on a.self.bytes.now a.self.states c.loop-state.state (omega arith) (sym c.in_ok-moves.ensures.0)

pub returns : goal.returns
returns c =
    let a = c.args in
    sym (c.loop-state.invariant ∙ entries_end a.self.bytes.now a.self.states c.loop-state.state (omega arith))
