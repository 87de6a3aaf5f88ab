-- `printing::put::Text::put_states`: after a turn for each state its line is put. Assumes nothing.
use Rattle.table.specs.Bytes.{machine_of}
use Rattle.printing.specs.Text.{state_lines}
use Rattle.printing.specs.Put.{Puts}
use Rattle.printing.proofs.put.Text.put_states.Given as goal

abbrev pub invariant-loop-state : goal.invariant-loop-state
invariant-loop-state l = Puts (state_lines (machine_of l.bytes) 0 l.state) l.initial.self l.self
