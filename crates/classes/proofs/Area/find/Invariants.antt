-- `classes::Area::find`: the loop keeps `Seek`, the class looked for is below the entry reached, and the entries fall. Assumes nothing.
use Rattle.classes.proofs.Seek.{Seek}
use Rattle.classes.proofs.Area.find.Given as goal

abbrev pub invariant-loop-next : goal.invariant-loop-next
invariant-loop-next l = Seek l.self.work.now l.self.n l.h l.s l.next

abbrev pub decreases-loop-next : goal.decreases-loop-next
decreases-loop-next l = l.next
