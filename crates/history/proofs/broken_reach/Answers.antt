-- `history::broken_reach`: under RowHit what `before_row` ensures, and under every other kind what `reach` does. Assumes nothing.
use Rattle.meaning.specs.Longest.{longest}
use Rattle.history.proofs.Reaching.{row_reaches, end_reaches}
use Rattle.history.proofs.Runs.{row_some}
use Rattle.history.proofs.broken_reach.Goals as goal

pub before_row-requires : goal.before_row-requires
before_row-requires c = row_some _ _ (rw c.in-RowHit.ensures at c.requires.1)

pub returns-in-RowHit : goal.returns-in-RowHit
returns-in-RowHit c =
    let l = c.args.limit in
    let e = c.in-RowHit.ensures in
    rw e (row_reaches longest l.x l.k c.args.history c.before_row.result (rw e at c.requires.0.rule_allowed) (rw e at c.requires.1) c.before_row.ensures)

pub returns-in_default : goal.returns-in_default
returns-in_default c =
    let l = c.args.limit in
    let e = c.rule_kind.ensures in
    rw e (end_reaches longest c.rule_kind.result l.x l.k c.args.history c.reach.result c.in_default.not-RowHit (rw e at c.requires.0.rule_allowed) (rw e at c.requires.1) (rw e at c.reach.ensures))
