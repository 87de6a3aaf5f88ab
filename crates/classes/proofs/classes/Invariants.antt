-- `classes::classes`: after i rounds, the one that is read off the marks among them, the classes are those of i jobs, whatever the set, so the invariant names none. It ends after m of them, or where one changed nothing. Assumes nothing.
use Rattle.classes.specs.Stores.{Stores}
use Rattle.classes.proofs.Result.{Further}
use Rattle.classes.proofs.classes.Given as goal

abbrev pub invariant-loop-i : goal.invariant-loop-i
invariant-loop-i l = Stores (Further l.m l.i) l.initial.area l.area
