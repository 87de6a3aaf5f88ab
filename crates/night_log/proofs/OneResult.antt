-- What opening and a call of the reader give is a function of the bytes and the place, so any two results that a promise allows are equal; for the writer and the judge this is known already. Assumes nothing.
use mathlib.Core.Path.{◌≡◌, refl, sym, ap, ap₂, ◌∙◌}
use mathlib.Core.Bool.{Bool, cond}
use mathlib.Core.List.{List}
use Prim.Native.Nat.{ℕ, ◌+◌}
use borrow.Author.Tests.{lt-ltb, le-ltb}
use lib.Dec.{ltb}
use lib.ListN.{length}
use denote.Ref.{Bor}
use Rattle.std.specs.Prelude.{Option, Some, None, Result, Ok, Err, ⊤}
use Rattle.layout.specs.declared.Refused.{Refused}
use Rattle.layout.specs.Refusal.{passed, first}
use Rattle.layout.proofs.Rows.{passed_not_refused}
use Rattle.layout.proofs.Refusals.{same_refusal, same_answer}
use Rattle.layout.proofs.Write.{written_one_result}
use Rattle.patterns.specs.Outcome.{outcomes}
use Rattle.sets.specs.Bytes.{set_of}
use Rattle.verdict.specs.declared.Loss.{Loss}
use Rattle.verdict.proofs.OneResult.{judged_one_result}
use Rattle.night_log.specs.declared.reader.LogReader.{LogReader}
use Rattle.night_log.specs.Bytes.{size_of, outcome_at, log_of, outcomes_of}
use Rattle.night_log.specs.Rows.{log_rows, write_rows}
use Rattle.night_log.specs.Read.{OpenedAs, HandsOut, ReadAs}
use Rattle.night_log.specs.Write.{LogWrittenAs}
use Rattle.night_log.specs.Judge.{log_judge_rows, LogJudgedAs}
use Rattle.night_log.specs.Reader.{ReaderOpenedAs, NextAs}
use Rattle.night_log.specs.Calls.{LogRead, answer_of, the_end}

pub opened_one_result : (b : List ℕ) (r r' : Result ⊤ Refused) → OpenedAs b r → OpenedAs b r' → r ≡ r'
opened_one_result b r r' p q = same_answer r r' (p ∙ sym q) (λ x y e f. refl)

abbrev pub gives : Result (Option Bool) Refused → ℕ → LogRead
gives a next = record { answer = a; place = next }

-- what a call at place i gives where the rows are passed
abbrev pub read_when : List Bool → ℕ → LogRead
read_when p i = cond (ltb i (length p)) (gives (answer_of (outcome_at p i)) (i + 1)) (gives the_end i)

handed_out : (p : List Bool) (i : ℕ) (r : Option Bool) (next : ℕ) → HandsOut p i (Ok r) next → gives (Ok r) next ≡ read_when p i
handed_out p i (Some o) next h = rw (lt-ltb _ _ h.there, h.outcome, h.moved)
handed_out p i None next h = rw (le-ltb _ _ h.past, h.stays)

pub read_known : (b : List ℕ) (i : ℕ) (r : Result (Option Bool) Refused) (next : ℕ) → ReadAs b i r next → first (log_rows b) ≡ passed → gives r next ≡ read_when (outcomes_of b) i
read_known b i (Ok r) next p e = handed_out (outcomes_of b) i r next p.hands_out
read_known b i (Err f) next p e = absurd (passed_not_refused (sym (p.refusal ∙ e)))

pub log_read_one_result : (b : List ℕ) (i : ℕ) (r r' : Result (Option Bool) Refused) (next next' : ℕ) → ReadAs b i r next → ReadAs b i r' next' → (r ≡ r') × (next ≡ next')
log_read_one_result b i (Ok r) (Ok r') next next' p q =
    let e = handed_out (outcomes_of b) i r next p.hands_out ∙ sym (handed_out (outcomes_of b) i r' next' q.hands_out) in
    (ap (λ z. z.answer) e, ap (λ z. z.place) e)
log_read_one_result b i (Ok r) (Err f) next next' p q = absurd (passed_not_refused (p.refusal ∙ sym q.refusal))
log_read_one_result b i (Err f) (Ok r) next next' p q = absurd (passed_not_refused (q.refusal ∙ sym p.refusal))
log_read_one_result b i (Err f) (Err g) next next' p q = (ap Err (same_refusal f g (p.refusal ∙ sym q.refusal)), p.hands_out ∙ sym q.hands_out)

pub log_written_one_result : (pattern out o o' : List ℕ) (r r' : Result ℕ Refused) → LogWrittenAs pattern out o r → LogWrittenAs pattern out o' r' → (r ≡ r') × (o ≡ o')
log_written_one_result pattern out = written_one_result (write_rows pattern out) (size_of (length pattern)) (log_of (outcomes pattern)) out

pub log_judge_one_result : (widest : ℕ) (set log : List ℕ) (r t : Result (Option Loss) Refused) → LogJudgedAs widest set log r → LogJudgedAs widest set log t → r ≡ t
log_judge_one_result widest set log = judged_one_result (log_judge_rows widest set log) (set_of set) (outcomes_of log)

-- the reader that keeps the bytes: what it is after opening, and what a call leaves of it
abbrev holds : Bor (List ℕ) → ℕ → Result ⊤ Refused → LogReader
holds log place opened = record { log = log; place = place; opened = opened }

pub open_one_result : (log : Bor (List ℕ)) (r r' : LogReader) → ReaderOpenedAs log r → ReaderOpenedAs log r' → r ≡ r'
open_one_result log r r' (l, p, o) (l', p', o') =
    ap₂ {C = LogReader} (λ x y. holds x y r.opened) (l ∙ sym l') (p ∙ sym p') ∙ ap (holds r'.log r'.place) (opened_one_result log.now r.opened r'.opened o o')

pub next_one_result : (before after after' : LogReader) (r r' : Result (Option Bool) Refused) → NextAs before after r → NextAs before after' r' → (r ≡ r') × (after ≡ after')
next_one_result before after after' r r' a b =
    let (e, f) = log_read_one_result before.log.now before.place r r' after.place after'.place a.read b.read in (
      e,
      ap₂ {C = LogReader} (λ x y. holds x after.place y) (a.same_log ∙ sym b.same_log) (a.same_opened ∙ sym b.same_opened) ∙ ap (λ z. holds after'.log z after'.opened) f,
    )
