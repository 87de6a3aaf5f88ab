-- `classes::Area::start`: after some limits a mark is left where these leave it. Assumes nothing.
use Rattle.classes.specs.Stage.{Entered}
use Rattle.classes.specs.Stores.{Stores}
use Rattle.classes.proofs.Marks.{left_by}
use Rattle.classes.proofs.Area.start.Given as goal

abbrev pub invariant-loop-limit : goal.invariant-loop-limit
invariant-loop-limit l = Stores (λ n w w'. Entered n (left_by l.fn.set l.limit-index) w w') l.initial.self l.self
