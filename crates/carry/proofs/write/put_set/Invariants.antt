-- `carry::write::put_set` meets its contract. The invariant: past byte 5 stand the first i bytes of the set, and then what stood there. Assumes nothing.
use Rattle.layout.proofs.Runs.{Pasted}
use Rattle.carry.proofs.write.put_set.Given as goal

abbrev pub invariant-loop-i : goal.invariant-loop-i
invariant-loop-i l = Pasted l.initial.out 5 l.set l.i l.out
