-- `night_log::write::Checked::put_outcomes` meets its contract. The invariant: past byte 9 stand the first j packed bytes, and then what stood there. Assumes nothing.
use lib.ListN.{length}
use Rattle.layout.proofs.Runs.{Pasted}
use Rattle.patterns.specs.Outcome.{outcomes}
use Rattle.night_log.specs.Bytes.{packed_size, packed}
use Rattle.night_log.proofs.write.Checked.put_outcomes.Given as goal

abbrev pub invariant-loop-j : goal.invariant-loop-j
invariant-loop-j l = Pasted l.initial.out 9 (packed (outcomes l.self.pattern.now) 0 (packed_size (length l.self.pattern.now))) l.j l.out
