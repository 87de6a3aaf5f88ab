-- `history::Latest::has_row`: the row is the run just looked at, or is to be found in what is left. Each turn leaves one run of hits less, so that there are no more turns than runs. Assumes nothing.
use Rattle.history.proofs.Turns.{Left, runs_in}
use Rattle.history.proofs.Latest.has_row.Given as goal

abbrev pub invariant-loop-rest : goal.invariant-loop-rest
invariant-loop-rest l = Left l.x l.fn.self.n l.fn.self.history l.rest

abbrev pub decreases-loop-rest : goal.decreases-loop-rest
decreases-loop-rest l = runs_in l.rest
