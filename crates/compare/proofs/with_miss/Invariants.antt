-- `compare::with_miss`: the outcomes not yet written are those left in the history. Assumes nothing.
use Rattle.compare.proofs.Packing.{Filled}
use Rattle.compare.proofs.with_miss.Given as goal

abbrev pub invariant-loop-i : goal.invariant-loop-i
invariant-loop-i l = Filled l.history l.n l.outcomes l.rest l.i
