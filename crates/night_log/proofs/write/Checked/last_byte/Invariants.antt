-- `night_log::write::Checked::last_byte` meets its contract: the invariant is the number that the outcomes so far write. Assumes nothing.
use mathlib.Core.Path.{◌≡◌}
use Rattle.patterns.specs.Outcome.{outcomes}
use Rattle.night_log.proofs.Turns.{bits_from}
use Rattle.night_log.proofs.write.Checked.last_byte.Given as goal

abbrev pub invariant-loop-k : goal.invariant-loop-k
invariant-loop-k l = l.byte ≡ bits_from (outcomes l.self.pattern.now) l.i l.k
