-- `printing::put::Text::put_states`: after a turn for each state its line is put. Assumes nothing.
use mathlib.Core.Path.{sym}
use native.Mathlib.Omega.{arith}
use Rattle.table.specs.Bytes.{machine_of}
use Rattle.table.proofs.Checked.{checked_looks}
use Rattle.printing.proofs.Adding.{puts_nothing, puts_same, puts_then}
use Rattle.printing.proofs.Texts.{no_lines, one_more_line}
use Rattle.printing.proofs.put.Text.put_states.Goals as goal

pub loop-state-init : goal.loop-state-init
loop-state-init c =
    puts_same (sym (no_lines (machine_of c.args.bytes.now))) (puts_nothing _)

pub put_state-requires : goal.put_state-requires
put_state-requires c =
    checked_looks c.args.bytes.now c.requires.0 c.loop-state.state (omega arith)

pub loop-state-preserved : goal.loop-state-preserved
loop-state-preserved c =
    puts_same (one_more_line (machine_of c.args.bytes.now) c.loop-state.state) (puts_then c.loop-state.invariant c.put_state.ensures)
