-- `history::allows_miss`: a miss may follow exactly when no limit blocks it. Assumes nothing.
use Rattle.history.proofs.Blocking.{none_blocked}
use Rattle.history.proofs.allows_miss.Goals as goal

pub returns : goal.returns
returns c = none_blocked c.args.set.now c.args.history c.blocked_by.result c.is_none.result c.blocked_by.ensures c.is_none.ensures
