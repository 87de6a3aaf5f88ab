-- `classes::Area::round`: the histories below h are placed, and at the end all are. Assumes nothing.
use Rattle.classes.specs.Chain.{Placed, Kept}
use Rattle.classes.specs.Stores.{Stores}
use Rattle.classes.proofs.Area.round.Given as goal

abbrev pub invariant-loop-h : goal.invariant-loop-h
invariant-loop-h l = Stores (λ n w w'. Placed w' n l.h × Kept n w w') l.initial.self l.self
