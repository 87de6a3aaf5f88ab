-- RULES, The reader of a log: it "hands out one outcome a call, the oldest first", and past the last one answers end, "as often as it is made". Its calls from its opening on, each at the place where the one before it left the reader.
use Rattle.std.specs.Prelude.{◌≡◌, Bool, List, ℕ, suc, ◌≤◌, ◌<◌, length, Option, Some, None, Result, Ok}
use Rattle.std.specs.Borrow.{Bor}
use Rattle.layout.specs.declared.Refused.{Refused}
use Rattle.night_log.specs.declared.reader.LogReader.{LogReader}
use Rattle.night_log.specs.Bytes.{outcome_at}
use Rattle.night_log.specs.Read.{ReadAs}
use Rattle.night_log.specs.Reader.{ReaderOpenedAs, NextAs}

-- what a call gave, and the place after it
pub record LogRead : Type 0 where
  pub answer : Result (Option Bool) Refused
  pub place : ℕ

-- the answer that hands out an outcome, and the one at the end
abbrev pub answer_of : Bool → Result (Option Bool) Refused
answer_of o = Ok (Some o)

abbrev pub the_end : Result (Option Bool) Refused
the_end = Ok None

-- what call n gave, from 0, and the place after it
pub record Calls (b : List ℕ) (reads : ℕ → LogRead) : Type 0 where
  pub begins : ReadAs b 0 (reads 0).answer (reads 0).place
  pub goes_on : (n : ℕ) → ReadAs b (reads n).place (reads (suc n)).answer (reads (suc n)).place

-- each outcome of a pattern in order, one a call
abbrev pub HandsInOrder : List Bool → (reads : ℕ → LogRead) → Type 0
HandsInOrder p reads = (n : ℕ) → n < length p → ((reads n).answer ≡ answer_of (outcome_at p n)) × ((reads n).place ≡ suc n)

-- and the end from then on
abbrev pub EndsAfter : List Bool → (reads : ℕ → LogRead) → Type 0
EndsAfter p reads = (n : ℕ) → length p ≤ n → ((reads n).answer ≡ the_end) × ((reads n).place ≡ length p)

-- the same of a reader that keeps the bytes: as it was opened and as each call left it, and what call n answered
pub record ReaderCalls (log : Bor (List ℕ)) (readers : ℕ → LogReader) (answers : ℕ → Result (Option Bool) Refused) : Type 0 where
  pub opened : ReaderOpenedAs log (readers 0)
  pub goes_on : (n : ℕ) → NextAs (readers n) (readers (suc n)) (answers n)

abbrev pub reads_of : (readers : ℕ → LogReader) → (answers : ℕ → Result (Option Bool) Refused) → ℕ → LogRead
reads_of readers answers n = record { answer = answers n; place = (readers (suc n)).place }
