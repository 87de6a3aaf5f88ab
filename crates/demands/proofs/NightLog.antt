-- The demands for the night log. Demand 1: each entry is refused exactly by the first row that holds, by no number but its own, and a refusal leaves the buffer, the place and the reader as they were; the same in the boundary's fields `refused` and `at`. Demand 2 in the fields that a caller goes by: `kept` is 1 exactly where the set is accepted, the bytes are a log and the set keeps its outcomes; `answer` and `place` of a call are those of the outcome at the place. (What was written is read back: `night_log/proofs/Stored`; judging is judging the outcomes as bytes: `night_log/proofs/Judged`.) Assumes nothing.
use mathlib.Core.Path.{◌≡◌, refl, sym, ap, ap₂, ◌∙◌, subst}
use mathlib.Core.Logic.Iff
use mathlib.Core.Logic.{◌↔◌, ◌⊎◌, ⊎_elim, dite}
use mathlib.Core.Bool.{Bool, true, false, true≢false}
use mathlib.Core.List.{List}
use Prim.Native.Nat.{ℕ, ◌≤◌, ◌<◌}
use native.Mathlib.Omega.{arith}
use lib.IntN.{ℤ}
use native.Mathlib.Decide.{dec_lt}
use borrow.Author.Tests.{lt-ltb, le-ltb}
use lib.ListN.{length}
use Rattle.std.specs.Prelude.{⊤, Option, Result, Ok, Err}
use Rattle.layout.specs.declared.Refused.{Refused}
use Rattle.layout.specs.Refusal.{passed, refused, first}
use Rattle.layout.proofs.Rows.{and_then, FromTo, both_passed, first_append}
use Rattle.layout.proofs.Write.{refused_leaves_buffer}
use Rattle.meaning.specs.Longest.{longest}
use Rattle.meaning.specs.Sets.{KeptBy}
use Rattle.meaning.specs.Broken.{LostFrom}
use Rattle.sets.specs.Bytes.{set_of}
use Rattle.sets.specs.Rows.{set_rows}
use Rattle.sets.proofs.Numbers.{set_positive}
use Rattle.verdict.specs.declared.Loss.{Loss}
use Rattle.night_log.specs.declared.reader.LogReader.{LogReader}
use Rattle.night_log.specs.Bytes.{outcome_at, outcomes_of}
use Rattle.night_log.specs.Rows.{log_rows, write_rows}
use Rattle.night_log.specs.Read.{OpenedAs, HandsOut, ReadAs}
use Rattle.night_log.specs.Write.{LogWrittenAs}
use Rattle.night_log.specs.Calls.{LogRead}
use Rattle.night_log.specs.Judge.{log_judge_rows, LogJudgedAs}
use Rattle.night_log.specs.Reader.{NextAs}
use Rattle.night_log.proofs.OneResult.{read_when, read_known}
use Rattle.flat.specs.declared.FloeWritten.{FloeWritten}
use Rattle.flat.specs.declared.FloeVerdict.{FloeVerdict}
use Rattle.flat.specs.declared.FloeLogOpened.{FloeLogOpened}
use Rattle.flat.specs.declared.FloeLogRead.{FloeLogRead}
use Rattle.flat.specs.Flat.{FlatAnswer, flat_written, flat_verdict, flat_opened, flat_log_read}
use Rattle.demands.specs.Refusing.{RefusedBy, Refuses, RefusesFlat}
use Rattle.demands.specs.Judging.{KeepsLog}
use Rattle.demands.specs.Reading.{ByOutcomes}
use Rattle.demands.proofs.Numbers.{log_numbers, LogWriteNumber, log_write_numbers, LogJudgeNumber, log_judge_numbers}
use Rattle.demands.proofs.Refusing.{refuses}
use Rattle.demands.proofs.FlatAnswers.{opens_refuses, written_opens, verdict_opens, opening_opens, read_opens, read_place, kept_flat, kept_or_not, lost_flat, refused_read_lem}
use Rattle.demands.proofs.Demand2.{log_verdict_kept, log_verdict_lost}

-- Writing a log.
module _ (p out out' : List ℕ) (r : Result ℕ Refused) (written : LogWrittenAs p out out' r) where
  pub log_write_refuses : Refuses LogWriteNumber (first (write_rows p out)) r
  log_write_refuses = refuses LogWriteNumber (write_rows p out) r (log_write_numbers p out) written.answer

  pub refused_log_write_leaves_buffer : (n v : ℕ) → RefusedBy r n v → out' ≡ out
  refused_log_write_leaves_buffer n v e = refused_leaves_buffer written ((log_write_refuses.exactly n v).0 e)

-- Opening one, and a call of the reader.
pub log_open_refuses : (b : List ℕ) (r : Result ⊤ Refused) → OpenedAs b r → Refuses (FromTo 15 16) (first (log_rows b)) r
log_open_refuses b r opened = refuses (FromTo 15 16) (log_rows b) r (log_numbers b) opened

module _ (b : List ℕ) (place : ℕ) (r : Result (Option Bool) Refused) (place' : ℕ) (read : ReadAs b place r place') where
  pub log_read_refuses : Refuses (FromTo 15 16) (first (log_rows b)) r
  log_read_refuses = refuses (FromTo 15 16) (log_rows b) r (log_numbers b) read.refusal

  pub refused_log_read_keeps_place : (n v : ℕ) → RefusedBy r n v → place' ≡ place
  refused_log_read_keeps_place n v (why, is, row) = subst (λ z. HandsOut (outcomes_of b) place z place') is read.hands_out

-- The reader that keeps the bytes.
module _ (before after : LogReader) (r : Result (Option Bool) Refused) (next : NextAs before after r) where
  pub reader_next_refuses : Refuses (FromTo 15 16) (first (log_rows before.log.now)) r
  reader_next_refuses = log_read_refuses before.log.now before.place r after.place next.read

  pub refused_next_leaves_reader : (n v : ℕ) → RefusedBy r n v → after ≡ before
  refused_next_leaves_reader n v e =
      ap₂ {C = LogReader} (λ l o. record { log = l; place = after.place; opened = o }) next.same_log next.same_opened
      ∙ ap (λ i. record { log = before.log; place = i; opened = before.opened }) (refused_log_read_keeps_place before.log.now before.place r after.place next.read n v e)

-- Judging a log.
pub log_judge_refuses : (set b : List ℕ) (r : Result (Option Loss) Refused) → LogJudgedAs longest set b r → Refuses LogJudgeNumber (first (log_judge_rows longest set b)) r
log_judge_refuses set b r judged = refuses LogJudgeNumber (log_judge_rows longest set b) r (log_judge_numbers longest set b) judged.refusal

-- The boundary.
from_15 : (n : ℕ) → FromTo 15 16 n → 1 ≤ n
from_15 n (l, h) = omega arith

pub floe_log_write_refuses : (p out out' : List ℕ) (f : FloeWritten) → FlatAnswer (LogWrittenAs p out out') flat_written f → RefusesFlat LogWriteNumber (first (write_rows p out)) f.refused f.at
floe_log_write_refuses p out out' f (a, written, e) =
    rw e (opens_refuses LogWriteNumber (write_rows p out) (λ n. ⊎_elim (λ q. omega arith) (⊎_elim (λ q. omega arith) (λ q. omega arith))) (log_write_numbers p out) (written_opens a) written.answer)

module _ (b : List ℕ) (f : FloeLogOpened) (flat : FlatAnswer (OpenedAs b) flat_opened f) where
  pub floe_log_open_refuses : RefusesFlat (FromTo 15 16) (first (log_rows b)) f.refused f.at
  floe_log_open_refuses = rw flat.2 (opens_refuses (FromTo 15 16) (log_rows b) from_15 (log_numbers b) (opening_opens flat.0) flat.1)

  -- on a refusal too
  pub floe_log_open_at_0 : f.place ≡ 0
  floe_log_open_at_0 = rw flat.2 (go flat.0)
    where
      go : (a : Result ⊤ Refused) → (flat_opened a).place ≡ 0
      go (Ok x) = refl
      go (Err why) = refl

-- the record of a call
abbrev flat_called : LogRead → FloeLogRead
flat_called a = flat_log_read (a.answer, a.place)

-- what a call answers at a place of the outcomes p
hands_out : (p : List Bool) (i : ℕ) → ByOutcomes p i (flat_called (read_when p i)).answer (flat_called (read_when p i)).place
hands_out p i = dite (dec_lt i (length p)) (λ h. there h (outcome_at p i) refl) past
  where
    there : i < length p → (o : Bool) → outcome_at p i ≡ o → ByOutcomes p i (flat_called (read_when p i)).answer (flat_called (read_when p i)).place
    there h true e = rw (lt-ltb i (length p) h, e) (record {
      miss = (λ z. absurd (omega arith), λ (_, z). absurd (true≢false (sym e ∙ z)));
      hit = (λ z. (h, e), λ z. refl);
      end = (λ z. absurd (omega arith), λ z. absurd (omega arith));
      goes_on = λ z. refl;
      stays = λ z. absurd (omega arith);
    })
    there h false e = rw (lt-ltb i (length p) h, e) (record {
      miss = (λ z. (h, e), λ z. refl);
      hit = (λ z. absurd (omega arith), λ (_, z). absurd (true≢false (sym z ∙ e)));
      end = (λ z. absurd (omega arith), λ z. absurd (omega arith));
      goes_on = λ z. refl;
      stays = λ z. absurd (omega arith);
    })

    past : (i < length p → ⊥) → ByOutcomes p i (flat_called (read_when p i)).answer (flat_called (read_when p i)).place
    past h = rw (le-ltb i (length p) (omega arith)) (record {
      miss = (λ z. absurd (omega arith), λ (z, _). absurd (h z));
      hit = (λ z. absurd (omega arith), λ (z, _). absurd (h z));
      end = (λ z. omega arith, λ z. refl);
      goes_on = λ z. absurd (h z);
      stays = λ z. refl;
    })

module _ (b : List ℕ) (place : ℕ) (f : FloeLogRead) (flat : FlatAnswer (λ a. ReadAs b place a.0 a.1) flat_log_read f) where
  pub floe_log_next_refuses : RefusesFlat (FromTo 15 16) (first (log_rows b)) f.refused f.at
  floe_log_next_refuses = rw flat.2 (opens_refuses (FromTo 15 16) (log_rows b) from_15 (log_numbers b) (read_opens flat.0.0 flat.0.1) flat.1.refusal)

  -- 3 is answered exactly on a refusal, which keeps the place
  pub floe_log_next_refused : (f.answer ≡ 3) ↔ (f.refused ≡ 0 → ⊥)
  floe_log_next_refused = rw flat.2 (refused_read_lem flat.0.0 flat.0.1 (λ n v q. from_15 n ((log_read_refuses b place flat.0.0 flat.0.1 flat.1).numbers n v q)))

  pub floe_log_next_keeps_place : (n v : ℕ) → first (log_rows b) ≡ refused n v → f.place ≡ place
  floe_log_next_keeps_place n v e =
      ap (λ z. z.place) flat.2 ∙ read_place flat.0.0 flat.0.1 ∙ refused_log_read_keeps_place b place flat.0.0 flat.0.1 flat.1 n v (((log_read_refuses b place flat.0.0 flat.0.1 flat.1).exactly n v).1 e)

  -- and on a log the answer is that of the outcome at the place
  pub floe_log_next_hands_out : first (log_rows b) ≡ passed → ByOutcomes (outcomes_of b) place f.answer f.place
  floe_log_next_hands_out e =
      let q = flat.2 ∙ ap flat_called (read_known b place flat.0.0 flat.0.1 flat.1 e) in
      rw (ap (λ z. z.answer) q, ap (λ z. z.place) q) (hands_out (outcomes_of b) place)

pub floe_log_judge_refuses : (set b : List ℕ) (f : FloeVerdict) → FlatAnswer (LogJudgedAs longest set b) flat_verdict f → RefusesFlat LogJudgeNumber (first (log_judge_rows longest set b)) f.refused f.at
floe_log_judge_refuses set b f (a, judged, e) =
    rw e (opens_refuses LogJudgeNumber (log_judge_rows longest set b) (λ n. ⊎_elim (set_positive n) (from_15 n)) (log_judge_numbers longest set b) (verdict_opens a) judged.refusal)

module _ (set b : List ℕ) (f : FloeVerdict) (flat : FlatAnswer (LogJudgedAs longest set b) flat_verdict f) where
  pub floe_log_judge_kept : (f.kept ≡ 1) ↔ KeepsLog set b
  floe_log_judge_kept = Iff.trans (rw flat.2 (kept_flat flat.0)) (Iff.trans (log_verdict_kept set b flat.0 flat.1) tested)
    where
      tested : ((first (log_judge_rows longest set b) ≡ passed) × KeptBy (set_of set) (outcomes_of b)) ↔ KeepsLog set b
      tested = (
        λ (e, k). let (a, l) = both_passed (set_rows longest set) (log_rows b) e in record { accepted = a; is_log = l; kept = k },
        λ h. (first_append (set_rows longest set) (log_rows b) ∙ ap₂ and_then h.accepted h.is_log, h.kept),
      )

  pub floe_log_judge_kept_or_not : (f.kept ≡ 0) ⊎ (f.kept ≡ 1)
  floe_log_judge_kept_or_not = rw flat.2 (kept_or_not flat.0)

  pub floe_log_judge_lost : (j i : ℕ) (from : ℤ) → 1 ≤ j → ((f.job ≡ j) × (f.limit ≡ i) × (f.first ≡ from)) ↔ ((first (log_judge_rows longest set b) ≡ passed) × LostFrom (set_of set) (outcomes_of b) j i from)
  floe_log_judge_lost j i from h = Iff.trans (rw flat.2 (lost_flat flat.0 j i from h)) (log_verdict_lost set b flat.0 flat.1 j i from)
