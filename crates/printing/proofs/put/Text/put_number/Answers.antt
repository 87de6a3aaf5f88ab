-- `printing::put::Text::put_number`: the digits that `io::decimal` gives are the decimal digits. Assumes nothing.
use mathlib.Core.Path.{◌∙◌}
use Rattle.printing.proofs.Adding.{puts_same}
use Rattle.printing.proofs.Digits.{fewest_decimal}
use Rattle.printing.proofs.put.Text.put_number.Goals as goal

pub returns : goal.returns
returns c =
    puts_same (c.decimal-count.ensures.digits ∙ fewest_decimal _ _ c.decimal-count.ensures.len) c.put_text.ensures
