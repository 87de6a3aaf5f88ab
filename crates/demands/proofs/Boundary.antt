-- The demands at the C boundary. Demand 1 in the fields `refused` and `at`: they are 0 and 0 exactly where every test is passed, and else the number of the first row that holds and what is returned beside it. Demand 2 in the fields that a caller goes by: `kept` is 1 exactly where the set is accepted, the outcomes are 0 and 1 and the set keeps them, `covers` 1 exactly where both are accepted and the first covers the second, `answer` 0, 1 and 2 exactly at normal, panic and lost, and 3 exactly on a refusal. What was lent is then as the promise behind says. Assumes nothing.
use mathlib.Core.Path.{◌≡◌, ◌∙◌, ap₂}
use mathlib.Core.Logic.Iff
use mathlib.Core.Logic.{◌↔◌, ◌⊎◌, ⊎_elim}
use mathlib.Core.Bool.{Bool}
use mathlib.Core.List.{List}
use Prim.Native.Nat.{ℕ, ◌≤◌}
use native.Mathlib.Omega.{arith}
use borrow.Author.Tests.{le-ltb, ltb-false}
use lib.IntN.{ℤ}
use lib.ListN.{length}
use Rattle.std.specs.Prelude.{⊤, Result, Ok}
use Rattle.layout.specs.declared.Refused.{Refused}
use Rattle.layout.specs.Refusal.{passed, first}
use Rattle.layout.proofs.Rows.{and_then, FromTo, both_passed as all_passed, passed_first, first_append, first_skip}
use Rattle.patterns.specs.Outcome.{outcomes, outcome_rows}
use Rattle.patterns.proofs.Outcomes.{outcomes_passed}
use Rattle.machines.specs.Machine.{Machine}
use Rattle.machines.specs.Canonical.{Canonical}
use Rattle.meaning.specs.Longest.{longest}
use Rattle.meaning.specs.declared.LimitSet.{LimitSet}
use Rattle.meaning.specs.Sets.{KeptBy}
use Rattle.meaning.specs.Broken.{LostFrom}
use Rattle.meaning.specs.Covers.{FirstBetween}
use Rattle.meaning.specs.Covers as meant
use Rattle.sets.specs.Bytes.{set_of}
use Rattle.sets.specs.Rows.{set_rows}
use Rattle.sets.specs.Read.{ReadAs}
use Rattle.sets.specs.Write.{write_rows, WrittenAs}
use Rattle.sets.proofs.Numbers.{SetNumber, set_numbers, set_positive}
use Rattle.verdict.specs.Judge.{pattern_rows, judge_rows, JudgedAs}
use Rattle.compare.specs.Compare.{packed, BothTested, both_passed, one_refused, in_turn, ComparedAs}
use Rattle.table.specs.Bytes.{size_of}
use Rattle.table.specs.Rows.{table_rows, look_rows}
use Rattle.table.specs.Check.{CheckedAs}
use Rattle.builder.specs.Build.{early_rows, build_rows, BuiltAs}
use Rattle.builder.proofs.Numbers.{BuildNumber, build_numbers, build_positive}
use Rattle.guard.specs.declared.Guard.{Guard}
use Rattle.guard.specs.Guard.{StartedAs, AskedAs, tell_rows, ToldAs}
use Rattle.guard.specs.Told.{heard}
use Rattle.guard.specs.Row.{row_start_rows, RowStartedAs, row_ask_rows, RowAskedAs, row_tell_rows, RowToldAs}
use Rattle.guard.specs.Runs.{RowCall, RowRun, calls_of, OnTable, bytes_told}
use Rattle.flat.specs.declared.FloeSetRead.{FloeSetRead}
use Rattle.flat.specs.declared.FloeWritten.{FloeWritten}
use Rattle.flat.specs.declared.FloeVerdict.{FloeVerdict}
use Rattle.flat.specs.declared.FloeComparison.{FloeComparison}
use Rattle.flat.specs.declared.FloeBuilt.{FloeBuilt}
use Rattle.flat.specs.declared.FloeChecked.{FloeChecked}
use Rattle.flat.specs.declared.FloeStarted.{FloeStarted}
use Rattle.flat.specs.declared.FloeAsked.{FloeAsked}
use Rattle.flat.specs.declared.FloeTold.{FloeTold}
use Rattle.flat.specs.declared.FloeDone.{FloeDone}
use Rattle.flat.specs.declared.FloeRowAsked.{FloeRowAsked}
use Rattle.flat.specs.Flat.{FlatAnswer, flat_set, flat_written, flat_verdict, flat_comparison, flat_built, flat_checked, flat_started, flat_asked, flat_told, flat_start, flat_ask, flat_tell}
use Rattle.demands.specs.Refusing.{RefusesFlat}
use Rattle.demands.specs.TableOf.{TableOf}
use Rattle.demands.specs.Judging.{Keeps}
use Rattle.demands.specs.Guarding.{ByKeptFlat}
use Rattle.demands.specs.Carrying.{Event, Through, told_in}
use Rattle.demands.proofs.Numbers.{WriteNumber, write_numbers, JudgeNumber, judge_numbers, table_numbers, look_numbers, TellNumber, tell_numbers, tell_positive, RowNumber, row_start_numbers, row_ask_numbers, RowTellNumber, row_tell_numbers, row_tell_positive}
use Rattle.demands.proofs.Answers.{one_size}
use Rattle.demands.proofs.FlatAnswers.{opens_refuses, set_opens, written_opens, verdict_opens, kept_flat, kept_or_not, lost_flat, built_opens, checked_opens, start_opens, ask_opens, tell_opens, answers_flat, refused_flat}
use Rattle.demands.proofs.FlatComparison.{compared_opens, compared_accepted, covers_flat, between_flat}
use Rattle.demands.proofs.Demand1.{ask_refuses, row_ask_refuses}
use Rattle.demands.proofs.Demand2.{verdict_kept, verdict_lost, comparison_covers, comparison_between, guard_answers, row_answers}

-- no row has number 0
at_least : (low high n : ℕ) → 1 ≤ low → FromTo low high n → 1 ≤ n
at_least low high n h (l, u) = omega arith

row_positive : (n : ℕ) → RowNumber n → 1 ≤ n
row_positive n = ⊎_elim (λ e. omega arith) (λ h. at_least 10 12 n (omega arith) h)

write_positive : (n : ℕ) → WriteNumber n → 1 ≤ n
write_positive n = ⊎_elim (⊎_elim (λ e. omega arith) (⊎_elim (λ (l, h). omega arith) (λ e. omega arith))) (λ e. omega arith)

-- Demand 1.
pub floe_read_set_refuses : (b : List ℕ) (f : FloeSetRead) → FlatAnswer (ReadAs longest b) flat_set f → RefusesFlat SetNumber (first (set_rows longest b)) f.refused f.at
floe_read_set_refuses b f (a, read, e) = rw e (opens_refuses SetNumber (set_rows longest b) set_positive (set_numbers longest b) (set_opens a) read.answer)

pub floe_write_set_refuses : (s : LimitSet) (out out' : List ℕ) (f : FloeWritten) → FlatAnswer (WrittenAs longest s out out') flat_written f → RefusesFlat WriteNumber (first (write_rows longest s out)) f.refused f.at
floe_write_set_refuses s out out' f (a, written, e) =
    rw e (opens_refuses WriteNumber (write_rows longest s out) write_positive (write_numbers longest s out) (written_opens a) written.answer)

pub floe_judge_refuses : (b p : List ℕ) (f : FloeVerdict) → FlatAnswer (JudgedAs longest b p) flat_verdict f → RefusesFlat JudgeNumber (first (judge_rows longest b p)) f.refused f.at
floe_judge_refuses b p f (a, judged, e) =
    rw e (opens_refuses JudgeNumber (judge_rows longest b p) (λ n. ⊎_elim (set_positive n) (⊎_elim (λ q. omega arith) (λ q. omega arith))) (judge_numbers longest b p) (verdict_opens a) judged.refusal)

module _ (a b : List ℕ) (f : FloeComparison) (flat : FlatAnswer (ComparedAs longest a b) flat_comparison f) where
  abbrev tests : BothTested
  tests = in_turn (first (set_rows longest a)) (first (set_rows longest b))

  pub floe_compare_accepts : (f.refused ≡ 0) ↔ (tests ≡ both_passed)
  floe_compare_accepts = compared_accepted a b f flat

  pub floe_compare_refuses : (which n v : ℕ) → 1 ≤ n → ((f.which ≡ which) × (f.refused ≡ n) × (f.at ≡ v)) ↔ (tests ≡ one_refused which n v)
  floe_compare_refuses = compared_opens a b f flat

pub floe_build_refuses : (set work work' table table' : List ℕ) (f : FloeBuilt) → FlatAnswer (BuiltAs longest set work work' table table') flat_built f
    → (m : Machine) → (first (early_rows longest set work) ≡ passed → Canonical m (KeptBy (set_of set)))
    → RefusesFlat BuildNumber (first (build_rows longest set work table (size_of m.states))) f.refused f.at
floe_build_refuses set work work' table table' f (a, (n, built), e) m canonical =
    rw e (opens_refuses BuildNumber (build_rows longest set work table (size_of m.states)) build_positive (build_numbers longest set work table (size_of m.states)) (built_opens a)
    (built.written.answer ∙ one_size longest set work table n m built.canonical canonical))

pub floe_check_table_refuses : (b : List ℕ) (f : FloeChecked) → FlatAnswer (CheckedAs b) flat_checked f → RefusesFlat (FromTo 10 12) (first (table_rows b)) f.refused f.at
floe_check_table_refuses b f (a, checked, e) =
    rw e (opens_refuses (FromTo 10 12) (table_rows b) (λ n. at_least 10 12 n (omega arith)) (table_numbers b) (checked_opens a) checked.refusal)

pub floe_guard_start_refuses : (b : List ℕ) (f : FloeStarted) → FlatAnswer (λ a. StartedAs b a.0 a.1) flat_started f → RefusesFlat (FromTo 10 12) (first (table_rows b)) f.refused f.at
floe_guard_start_refuses b f (a, started, e) =
    rw e (opens_refuses (FromTo 10 12) (table_rows b) (λ n. at_least 10 12 n (omega arith)) (table_numbers b) (start_opens a.0) started.refusal)

pub floe_guard_ask_refuses : (b : List ℕ) (g : Guard) (f : FloeAsked) → FlatAnswer (λ a. AskedAs b g a.0 a.1) flat_asked f → RefusesFlat (FromTo 10 12) (first (look_rows b g.state)) f.refused f.at
floe_guard_ask_refuses b g f (a, asked, e) =
    rw e (opens_refuses (FromTo 10 12) (look_rows b g.state) (λ n. at_least 10 12 n (omega arith)) (look_numbers b g.state) (ask_opens a.0) asked.refusal)

pub floe_guard_tell_refuses : (b : List ℕ) (g : Guard) (byte : ℕ) (f : FloeTold) → FlatAnswer (λ a. ToldAs b g byte a.0 a.1) flat_told f → RefusesFlat TellNumber (first (tell_rows b g byte)) f.refused f.at
floe_guard_tell_refuses b g byte f (a, told, e) =
    rw e (opens_refuses TellNumber (tell_rows b g byte) tell_positive (tell_numbers b g byte) (tell_opens a.0) told.refusal)

module _ (row row' : List Guard) (job : ℕ) (b : List ℕ) where
  pub floe_row_start_refuses : (f : FloeDone) → FlatAnswer (λ a. RowStartedAs row job b a row') flat_start f → RefusesFlat RowNumber (first (row_start_rows row job b)) f.refused f.at
  floe_row_start_refuses f (a, started, e) = rw e (opens_refuses RowNumber (row_start_rows row job b) row_positive (row_start_numbers row job b) (start_opens a) started.refusal)

  pub floe_row_ask_refuses : (f : FloeRowAsked) → FlatAnswer (RowAskedAs row job b) flat_ask f → RefusesFlat RowNumber (first (row_ask_rows row job b)) f.refused f.at
  floe_row_ask_refuses f (a, asked, e) = rw e (opens_refuses RowNumber (row_ask_rows row job b) row_positive (row_ask_numbers row job b) (ask_opens a) asked.refusal)

  pub floe_row_tell_refuses : (byte : ℕ) (f : FloeDone) → FlatAnswer (λ a. RowToldAs row job b byte a row') flat_tell f → RefusesFlat RowTellNumber (first (row_tell_rows row job b byte)) f.refused f.at
  floe_row_tell_refuses byte f (a, told, e) =
      rw e (opens_refuses RowTellNumber (row_tell_rows row job b byte) row_tell_positive (row_tell_numbers row job b byte) (tell_opens a) told.refusal)

-- Demand 2. The verdict.
module _ (set pattern : List ℕ) (f : FloeVerdict) (flat : FlatAnswer (JudgedAs longest set pattern) flat_verdict f) where
  pub floe_judge_kept : (f.kept ≡ 1) ↔ Keeps set pattern
  floe_judge_kept = Iff.trans (rw flat.2 (kept_flat flat.0)) (Iff.trans (verdict_kept set pattern flat.0 flat.1) tested)
    where
      tested : ((first (judge_rows longest set pattern) ≡ passed) × KeptBy (set_of set) (outcomes pattern)) ↔ Keeps set pattern
      tested = (
        λ (e, k).
            let (a, o) = all_passed (set_rows longest set) (pattern_rows pattern) e in
            let (l, p) = passed_first _ _ o in
            record { accepted = a; not_too_long = ltb-false _ _ l; outcomes_are_0_and_1 = (outcomes_passed pattern 0).0 p; kept = k },
        λ h. (
          first_append (set_rows longest set) (pattern_rows pattern)
              ∙ ap₂ and_then h.accepted (first_skip 26 0 _ (outcome_rows pattern 0) (le-ltb _ _ h.not_too_long) ∙ (outcomes_passed pattern 0).1 h.outcomes_are_0_and_1),
          h.kept,
        ),
      )

  pub floe_judge_kept_or_not : (f.kept ≡ 0) ⊎ (f.kept ≡ 1)
  floe_judge_kept_or_not = rw flat.2 (kept_or_not flat.0)

  pub floe_judge_lost : (j i : ℕ) (from : ℤ) → 1 ≤ j → ((f.job ≡ j) × (f.limit ≡ i) × (f.first ≡ from)) ↔ ((first (judge_rows longest set pattern) ≡ passed) × LostFrom (set_of set) (outcomes pattern) j i from)
  floe_judge_lost j i from h = Iff.trans (rw flat.2 (lost_flat flat.0 j i from h)) (verdict_lost set pattern flat.0 flat.1 j i from)

-- The comparison.
module _ (a b : List ℕ) (f : FloeComparison) (flat : FlatAnswer (ComparedAs longest a b) flat_comparison f) where
  abbrev accepted : Type 0
  accepted = in_turn (first (set_rows longest a)) (first (set_rows longest b)) ≡ both_passed

  pub floe_compare_covers : (f.covers ≡ 1) ↔ (accepted × meant.Covers (set_of a) (set_of b))
  floe_compare_covers = Iff.trans (covers_flat a b f flat) (comparison_covers a b flat.0 flat.1)

  pub floe_compare_between : (q : List Bool) → 1 ≤ length q
      → ((f.length ≡ length q) × (f.pattern ≡ (packed q).outcomes)) ↔ (accepted × FirstBetween (set_of a) (set_of b) q × (length q ≤ longest))
  floe_compare_between q h = Iff.trans (between_flat a b f flat (packed q) h) (comparison_between a b flat.0 flat.1 q)

-- A guard, alone and in a row: a refusal is answered by 3, whatever the table, and nothing else is.
pub floe_guard_ask_refused : (b : List ℕ) (g : Guard) (f : FloeAsked) → FlatAnswer (λ a. AskedAs b g a.0 a.1) flat_asked f → (f.answer ≡ 3) ↔ (f.refused ≡ 0 → ⊥)
floe_guard_ask_refused b g f (a, asked, e) = rw e (refused_flat a.0 (λ n v q. at_least 10 12 n (omega arith) ((ask_refuses b g a.0 a.1 asked).numbers n v q)))

pub floe_row_ask_refused : (row : List Guard) (job : ℕ) (b : List ℕ) (f : FloeRowAsked) → FlatAnswer (RowAskedAs row job b) flat_ask f → (f.answer ≡ 3) ↔ (f.refused ≡ 0 → ⊥)
floe_row_ask_refused row job b f (a, asked, e) = rw e (refused_flat a (λ n v q. row_positive n ((row_ask_refuses row job b a asked).numbers n v q)))

pub floe_guard_ask_answers : (set b : List ℕ) → TableOf set b → (began : Result ⊤ Refused) (s : Guard) → StartedAs b began s → (events : List Event) (g : Guard) → Through set b s events g → (f : FloeAsked) → FlatAnswer (λ a. AskedAs b g a.0 a.1) flat_asked f
    → ByKeptFlat (set_of set) (heard (told_in events)) f.answer
floe_guard_ask_answers set b t began s started events g run f (a, asked, e) = rw e (answers_flat (set_of set) (heard (told_in events)) a.0 (guard_answers set b t began s started events g run a.0 a.1 asked))

pub floe_row_ask_answers : (set b : List ℕ) → TableOf set b → (row started last : List Guard) (job : ℕ) (calls : List RowCall) → RowStartedAs row job b (Ok tt) started → RowRun started calls last
    → OnTable b (calls_of job calls) → (f : FloeRowAsked) → FlatAnswer (RowAskedAs last job b) flat_ask f → ByKeptFlat (set_of set) (heard (bytes_told (calls_of job calls))) f.answer
floe_row_ask_answers set b t row started last job calls begin run on f (a, asked, e) =
    rw e (answers_flat (set_of set) (heard (bytes_told (calls_of job calls))) a (row_answers set b t row started last job calls begin run on a asked))
