-- RULES, What each entry tests, writing a log: "15 for more than 4,294,967,295 outcomes; then 13 over all outcomes; then 9", and else "writes the log and returns its length".
use Rattle.std.specs.Prelude.{List, ℕ, length, Result}
use Rattle.layout.specs.declared.Refused.{Refused}
use Rattle.layout.specs.Write.{WrittenBy}
use Rattle.patterns.specs.Outcome.{outcomes}
use Rattle.night_log.specs.Bytes.{size_of, log_of}
use Rattle.night_log.specs.Rows.{write_rows}

abbrev pub LogWrittenAs : (pattern out out' : List ℕ) → Result ℕ Refused → Type 0
LogWrittenAs pattern out out' = WrittenBy (write_rows pattern out) (size_of (length pattern)) (log_of (outcomes pattern)) out out'
