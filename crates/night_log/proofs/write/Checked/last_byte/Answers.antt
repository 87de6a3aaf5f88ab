-- `night_log::write::Checked::last_byte` meets its contract: the invariant is the number that the outcomes so far write. Assumes nothing.
use native.Mathlib.Omega.{arith}
use Rattle.patterns.specs.Outcome.{outcomes}
use Rattle.night_log.proofs.Turns.{bits_room}
use Rattle.night_log.proofs.write.Checked.last_byte.Goals as goal

pub overflow_mul-byte : goal.overflow_mul-byte
overflow_mul-byte c = let s = c.args in omega (arith, c.loop-k.invariant, bits_room (outcomes s.self.pattern.now) s.i c.loop-k.k (omega arith))

pub overflow_add-byte : goal.overflow_add-byte
overflow_add-byte c =
    let s = c.args in
    omega (arith, c.bit_at.ensures, c.loop-k.invariant, bits_room (outcomes s.self.pattern.now) s.i c.loop-k.k (omega arith))
