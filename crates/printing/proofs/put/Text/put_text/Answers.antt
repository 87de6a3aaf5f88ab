-- `printing::put::Text::put_text`: after i turns the first i bytes of the text are put. Assumes nothing.
use native.Mathlib.Omega.{arith}
use Rattle.printing.proofs.Adding.{puts_next}
use Rattle.printing.proofs.put.Text.put_text.Goals as goal

pub loop-byte-preserved : goal.loop-byte-preserved
loop-byte-preserved c =
    puts_next c.args.text.now c.loop-byte.byte-index (omega (arith, c.loop-byte-test.true)) c.loop-byte.invariant c.put_byte.ensures
