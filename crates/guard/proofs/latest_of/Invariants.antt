-- `latest_of`: a copy of the outcomes in which each takes the place before it, and the new one follows. Assumes nothing.
use Rattle.guard.proofs.Latest.{Followed}
use Rattle.guard.proofs.latest_of.Given as goal

abbrev pub invariant-loop-i : goal.invariant-loop-i
invariant-loop-i l = Followed l.outcomes l.hit l.after l.i
