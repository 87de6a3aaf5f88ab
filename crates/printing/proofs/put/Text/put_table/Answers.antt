-- `printing::put::Text::put_table`: a refused table is one line, a checked one its head and its states. Assumes nothing.
use mathlib.Core.Path.{refl}
use Rattle.layout.specs.Refusal.{first}
use Rattle.table.specs.Bytes.{machine_of}
use Rattle.table.specs.Rows.{table_rows}
use Rattle.table.proofs.Answers.{states_passed}
use Rattle.printing.proofs.Adding.{puts_same, puts_then}
use Rattle.printing.proofs.Texts.{passed_text}
use Rattle.printing.proofs.put.Text.put_table.Goals as goal

pub returns-in-Ok : goal.returns-in-Ok
returns-in-Ok c =
    let b = c.args.bytes.now in
    let r = c.in-Ok.ensures in
    let (passes, counted) = states_passed b (r.refusal, r.states) refl in
    puts_same (passed_text (machine_of b) (first (table_rows b)) _ passes counted) (puts_then c.put_head.ensures c.put_states.ensures)
