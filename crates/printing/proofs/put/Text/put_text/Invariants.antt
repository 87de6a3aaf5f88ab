-- `printing::put::Text::put_text`: after i turns the first i bytes of the text are added. Assumes nothing.
use lib.ListN.{take}
use Rattle.printing.specs.Put.{Puts}
use Rattle.printing.proofs.put.Text.put_text.Given as goal

abbrev pub invariant-loop-byte : goal.invariant-loop-byte
invariant-loop-byte l = Puts (take l.byte-index l.text) l.initial.self l.self
