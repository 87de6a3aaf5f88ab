-- `printing::put::Text::put_refusal`: the pieces of the line, one after another. Assumes nothing.
use mathlib.Core.Path.{ap₂}
use Rattle.printing.specs.Text.{refusal_text}
use Rattle.printing.proofs.Adding.{puts_same, puts_then}
use Rattle.printing.proofs.put.Text.put_refusal.Goals as goal

pub returns : goal.returns
returns c =
    puts_same (ap₂ refusal_text c.number.ensures c.at.ensures) (puts_then (puts_then (puts_then (puts_then c.put_text.ensures c.put_number.ensures) c.put_text-2.ensures) c.put_number-2.ensures) c.put_text-3.ensures)
