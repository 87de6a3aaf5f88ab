-- `history::before_row`: at each turn's start the run has fewer than x hits, so that no row is passed; the outcome that makes them x is in a row. Assumes nothing.
use Prim.Native.Nat.{◌<◌}
use Rattle.history.proofs.Passed.{Passed}
use Rattle.history.proofs.before_row.Given as goal

abbrev pub invariant-loop-passed : goal.invariant-loop-passed
invariant-loop-passed l = (l.run < l.x) × Passed l.x l.history l.passed l.rest l.run
