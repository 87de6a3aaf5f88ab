-- `carry::write::put_outcomes` meets its contract. The invariant: from the place on stand the first i outcomes' bytes, and then what stood there. Assumes nothing.
use mathlib.Core.List.{map}
use Rattle.layout.proofs.Runs.{Pasted}
use Rattle.patterns.specs.Outcome.{bit}
use Rattle.carry.proofs.write.put_outcomes.Given as goal

abbrev pub invariant-loop-i : goal.invariant-loop-i
invariant-loop-i l = Pasted l.initial.out l.at (map bit l.hit-items) l.i l.out
