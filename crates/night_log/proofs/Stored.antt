-- What was written is the log of the pattern: it is accepted, and a reader gives the pattern back, outcome by outcome, and then the end for ever. Assumes nothing.
use mathlib.Core.Path.{◌≡◌, sym, ap, ◌∙◌, subst}
use mathlib.Core.List.{List}
use Prim.Native.Nat.{ℕ}
use native.Mathlib.Omega.{arith}
use denote.Ref.{Bor}
use lib.ListN.{length, take, drop, length-map}
use lib.Seq.{take_at}
use Rattle.std.specs.Prelude.{Bool, Option, Result, Ok}
use Rattle.layout.specs.declared.Refused.{Refused}
use Rattle.layout.specs.Refusal.{passed, first}
use Rattle.layout.specs.Write.{buffer_when, length_when}
use Rattle.patterns.specs.Outcome.{outcome, outcomes}
use Rattle.night_log.specs.declared.reader.LogReader.{LogReader}
use Rattle.night_log.specs.Bytes.{packed_size, size_of, log_of}
use Rattle.night_log.specs.Rows.{log_rows, write_rows}
use Rattle.night_log.specs.Write.{LogWrittenAs}
use Rattle.night_log.specs.Calls.{LogRead, Calls, HandsInOrder, EndsAfter, ReaderCalls, reads_of}
use Rattle.night_log.proofs.Packing.{packed_length}
use Rattle.night_log.proofs.RoundTrip.{log_accepted}
use Rattle.night_log.proofs.Calls.{reads_back, reads_end, reader_calls}

module _ (pattern out out' : List ℕ) (n : ℕ) (written : LogWrittenAs pattern out out' (Ok n)) where
  -- as many bytes as the writer returned
  abbrev stored : List ℕ
  stored = take n out'

  rows_passed : first (write_rows pattern out) ≡ passed
  rows_passed = sym written.answer

  length_is : n ≡ size_of (length pattern)
  length_is = written.length_written ∙ ap (λ t. length_when t (size_of (length pattern))) rows_passed

  log_length : length (log_of (outcomes pattern)) ≡ n
  log_length =
      let p = outcomes pattern in
      let e : length p ≡ length pattern = length-map pattern outcome in
      omega (arith, packed_length p 0 (packed_size (length p)), ap packed_size e, length_is)

  pub stored_log : stored ≡ log_of (outcomes pattern)
  stored_log =
      ap (take n) (written.buffer ∙ ap (λ t. buffer_when t (size_of (length pattern)) (log_of (outcomes pattern)) out) rows_passed)
      ∙ take_at (log_of (outcomes pattern)) (drop (size_of (length pattern)) out) n log_length

  pub stored_accepted : first (log_rows stored) ≡ passed
  stored_accepted = subst (λ z. first (log_rows z) ≡ passed) (sym stored_log) (log_accepted (outcomes pattern))

  module _ (reads : ℕ → LogRead) (calls : Calls stored reads) where
    on_log : Calls (log_of (outcomes pattern)) reads
    on_log = subst (λ z. Calls z reads) stored_log calls

    pub stored_read_back : HandsInOrder (outcomes pattern) reads
    stored_read_back = reads_back (outcomes pattern) reads on_log

    pub stored_then_ends : EndsAfter (outcomes pattern) reads
    stored_then_ends = reads_end (outcomes pattern) reads on_log

  -- by a reader that keeps these bytes
  pub stored_reader : (log : Bor (List ℕ)) (readers : ℕ → LogReader) (answers : ℕ → Result (Option Bool) Refused) → log.now ≡ stored → ReaderCalls log readers answers
      → HandsInOrder (outcomes pattern) (reads_of readers answers) × EndsAfter (outcomes pattern) (reads_of readers answers)
  stored_reader log readers answers e c =
      let calls = subst (λ z. Calls z (reads_of readers answers)) e (reader_calls log readers answers c) in
      (stored_read_back (reads_of readers answers) calls, stored_then_ends (reads_of readers answers) calls)
