-- The calls of a reader on an accepted log hand out its outcomes in order, one a call, and then the end; on the log of a pattern that is the pattern. So do those of a reader that keeps the bytes. Assumes nothing.
use mathlib.Core.Path.{◌≡◌, refl, ap, ◌∙◌, subst}
use mathlib.Core.Logic.{dite}
use mathlib.Core.Bool.{Bool}
use mathlib.Core.List.{List}
use Prim.Native.Nat.{ℕ, zero, suc, ◌+◌, ◌<◌}
use native.Mathlib.Numerals.{add-one}
use native.Mathlib.Decide.{dec_lt}
use native.Mathlib.Omega.{arith}
use borrow.Author.Tests.{lt-ltb, le-ltb}
use denote.Ref.{Bor}
use lib.ListN.{length}
use Rattle.layout.specs.Refusal.{passed, first}
use Rattle.std.specs.Prelude.{Option, Result}
use Rattle.layout.specs.declared.Refused.{Refused}
use Rattle.night_log.specs.declared.reader.LogReader.{LogReader}
use Rattle.night_log.specs.Bytes.{outcome_at, log_of, outcomes_of}
use Rattle.night_log.specs.Rows.{log_rows}
use Rattle.night_log.specs.Read.{ReadAs}
use Rattle.night_log.specs.Calls.{LogRead, answer_of, the_end, Calls, HandsInOrder, EndsAfter, ReaderCalls, reads_of}
use Rattle.night_log.proofs.OneResult.{gives, read_when, read_known}
use Rattle.night_log.proofs.RoundTrip.{log_accepted, log_outcomes}

module _ (b : List ℕ) (reads : ℕ → LogRead) (accepted : first (log_rows b) ≡ passed) (c : Calls b reads) where
  abbrev p : List Bool
  p = outcomes_of b

  -- the place before call n
  abbrev before : ℕ → ℕ
  before zero = 0
  before (suc n) = (reads n).place

  call : (n : ℕ) → ReadAs b (before n) (reads n).answer (reads n).place
  call zero = c.begins
  call (suc n) = c.goes_on n

  call_gave : (n i : ℕ) → before n ≡ i → reads n ≡ read_when p i
  call_gave n i e = read_known b (before n) (reads n).answer (reads n).place (call n) accepted ∙ ap (read_when p) e

  within : (n : ℕ) → before n ≡ n → n < length p → ((reads n).answer ≡ answer_of (outcome_at p n)) × ((reads n).place ≡ suc n)
  within n e h =
      let f : reads n ≡ gives (answer_of (outcome_at p n)) (n + 1) = call_gave n n e ∙ (rw (lt-ltb n (length p) h)) in
      (ap (λ r. r.answer) f, ap (λ r. r.place) f ∙ add-one n)

  past : (n : ℕ) → before n ≡ length p → ((reads n).answer ≡ the_end) × ((reads n).place ≡ length p)
  past n e =
      let f : reads n ≡ gives the_end (length p) = call_gave n (length p) e ∙ (rw (le-ltb (length p) (length p) (omega arith))) in
      (ap (λ r. r.answer) f, ap (λ r. r.place) f)

  pub calls_in_order : HandsInOrder p reads
  calls_in_order zero h = within 0 refl h
  calls_in_order (suc n) h = within (suc n) (calls_in_order n (omega arith)).1 h

  pub calls_end : EndsAfter p reads
  calls_end zero h = past 0 (omega arith)
  calls_end (suc n) h = past (suc n) (dite (dec_lt n (length p)) (λ l. omega (arith, (calls_in_order n l).1)) (λ l. (calls_end n (omega arith)).1))

module _ (p : List Bool) (reads : ℕ → LogRead) (c : Calls (log_of p) reads) where
  pub reads_back : HandsInOrder p reads
  reads_back = subst (λ q. HandsInOrder q reads) (log_outcomes p) (calls_in_order (log_of p) reads (log_accepted p) c)

  pub reads_end : EndsAfter p reads
  reads_end = subst (λ q. EndsAfter q reads) (log_outcomes p) (calls_end (log_of p) reads (log_accepted p) c)

-- the calls of a reader that keeps the bytes are calls on these bytes
module _ (log : Bor (List ℕ)) (readers : ℕ → LogReader) (answers : ℕ → Result (Option Bool) Refused) (c : ReaderCalls log readers answers) where
  same_log : (n : ℕ) → (readers n).log ≡ log
  same_log zero = c.opened.0
  same_log (suc n) = (c.goes_on n).same_log ∙ same_log n

  pub reader_calls : Calls log.now (reads_of readers answers)
  reader_calls = record {
    begins = subst (λ i. ReadAs log.now i (answers 0) (readers 1).place) c.opened.1 (at_log 0);
    goes_on = λ n. at_log (suc n);
  }
    where
      at_log : (n : ℕ) → ReadAs log.now (readers n).place (answers n) (readers (suc n)).place
      at_log n = subst (λ l. ReadAs l.now (readers n).place (answers n) (readers (suc n)).place) (same_log n) (c.goes_on n).read
