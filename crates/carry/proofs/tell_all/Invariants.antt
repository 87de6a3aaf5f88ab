-- `carry::tell_all`: telling what is left, from here on, is telling all. Assumes nothing.
use mathlib.Core.Path.{◌≡◌}
use lib.ListN.{drop}
use Rattle.guard.specs.Told.{told_all}
use Rattle.carry.proofs.tell_all.Given as goal

abbrev pub invariant-loop-byte : goal.invariant-loop-byte
invariant-loop-byte l = told_all l.table l.guard (drop l.byte-index l.outcomes) ≡ told_all l.table l.initial.guard l.outcomes
