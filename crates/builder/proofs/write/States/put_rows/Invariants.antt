-- `builder::write::States::put_rows`: the rows of the states passed have been stored. Assumes nothing.
use mathlib.Core.Path.{◌≡◌}
use Rattle.numbering.specs.Numbered.{numbered_machine}
use Rattle.builder.proofs.Stores.{rows_in}
use Rattle.builder.proofs.write.States.put_rows.Given as goal

abbrev pub invariant-loop-state : goal.invariant-loop-state
invariant-loop-state l = l.out ≡ rows_in (numbered_machine l.self.n l.self.work.now l.self.count) l.initial.out l.state
