-- RULES, What each entry tests, writing a record, and else: "writes the record and returns its length". "Only version 2 is written."
use Rattle.std.specs.Prelude.{List, ℕ, Result}
use Rattle.layout.specs.declared.Refused.{Refused}
use Rattle.layout.specs.Write.{WrittenBy}
use Rattle.guard.specs.declared.Guard.{Guard}
use Rattle.carry.specs.Bytes.{new_version, size_of, record_of}
use Rattle.carry.specs.Rows.{write_rows}

abbrev pub RecordWrittenAs : (widest h : ℕ) → Guard → (set out out' : List ℕ) → Result ℕ Refused → Type 0
RecordWrittenAs widest h g set out out' = WrittenBy (write_rows widest h set out) (size_of h set) (record_of new_version h set g) out out'
