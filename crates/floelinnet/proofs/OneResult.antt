-- Any two results that the promise of an exported function allows are equal, and what was lent is then the same: by the library's own theorems, since a record is the flat form of an answer. Assumes nothing.
use mathlib.Core.Path.{◌≡◌, sym, ap, ap₂, ◌∙◌}
use mathlib.Core.List.{List}
use Prim.Native.Nat.{ℕ}
use Rattle.meaning.specs.Longest.{longest}
use Rattle.meaning.specs.declared.LimitSet.{LimitSet}
use Rattle.sets.specs.Read.{ReadAs}
use Rattle.sets.specs.Write.{WrittenAs}
use Rattle.sets.proofs.OneResult.{read_one_result, written_one_result}
use Rattle.verdict.specs.Judge.{JudgedAs}
use Rattle.verdict.proofs.OneResult.{judge_one_result}
use Rattle.night_log.specs.Read.{OpenedAs, ReadAs as LogReadAs}
use Rattle.night_log.specs.Write.{LogWrittenAs}
use Rattle.night_log.specs.Judge.{LogJudgedAs}
use Rattle.night_log.proofs.OneResult.{log_written_one_result, opened_one_result, log_read_one_result, log_judge_one_result}
use Rattle.compare.specs.Compare.{ComparedAs}
use Rattle.compare.proofs.OneResult.{compare_one_result}
use Rattle.builder.specs.Build.{BuiltAs}
use Rattle.builder.proofs.OneResult.{built_one_result}
use Rattle.table.specs.Check.{CheckedAs}
use Rattle.table.proofs.OneResult.{checked_one_result}
use Rattle.guard.specs.declared.Guard.{Guard}
use Rattle.guard.specs.Guard.{StartedAs, AskedAs, ToldAs}
use Rattle.guard.specs.Row.{RowStartedAs, RowAskedAs, RowToldAs}
use Rattle.guard.proofs.OneResult.{start_one_result, ask_one_result, tell_one_result, row_start_one_result, row_ask_one_result, row_tell_one_result}
use Rattle.carry.specs.Bytes.{carried}
use Rattle.carry.specs.Write.{RecordWrittenAs}
use Rattle.carry.specs.Read.{ReadBackAs}
use Rattle.carry.proofs.OneResult.{record_written_one_result, read_back_one_result}
use Rattle.flat.specs.declared.FloeSetRead.{FloeSetRead}
use Rattle.flat.specs.declared.FloeWritten.{FloeWritten}
use Rattle.flat.specs.declared.FloeVerdict.{FloeVerdict}
use Rattle.flat.specs.declared.FloeComparison.{FloeComparison}
use Rattle.flat.specs.declared.FloeBuilt.{FloeBuilt}
use Rattle.flat.specs.declared.FloeChecked.{FloeChecked}
use Rattle.flat.specs.declared.FloeStarted.{FloeStarted}
use Rattle.flat.specs.declared.FloeAsked.{FloeAsked}
use Rattle.flat.specs.declared.FloeTold.{FloeTold}
use Rattle.flat.specs.declared.FloeDone.{FloeDone}
use Rattle.flat.specs.declared.FloeRowAsked.{FloeRowAsked}
use Rattle.flat.specs.declared.FloeLogOpened.{FloeLogOpened}
use Rattle.flat.specs.declared.FloeLogRead.{FloeLogRead}
use Rattle.flat.specs.Flat.{FlatAnswer, flat_set, flat_written, flat_verdict, flat_comparison, flat_built, flat_checked, flat_start, flat_ask, flat_tell, flat_started, flat_back, flat_asked, flat_told, flat_opened, flat_log_read}

one_flat : {A R : Type 0} (promise : A → Type 0) (flat : A → R) → ((a b : A) → promise a → promise b → a ≡ b) → (r t : R) → FlatAnswer promise flat r → FlatAnswer promise flat t → r ≡ t
one_flat promise flat one r t (a, p, e) (b, q, f) = e ∙ ap flat (one a b p q) ∙ sym f

-- the same of an answer beside what was lent, as it is then
one_flat_lent : {A R L : Type 0} (promise : A → L → Type 0) (flat : A → R) → ((a b : A) (z z' : L) → promise a z → promise b z' → (a ≡ b) × (z ≡ z'))
    → (z z' : L) (r t : R) → FlatAnswer (λ a. promise a z) flat r → FlatAnswer (λ a. promise a z') flat t → (r ≡ t) × (z ≡ z')
one_flat_lent promise flat one z z' r t (a, p, e) (b, q, f) =
    let (same, lent) = one a b z z' p q in
    (e ∙ ap flat same ∙ sym f, lent)

-- and of an answer with what comes back beside it
one_flat_beside : {A B R : Type 0} (promise : A → B → Type 0) (flat : (A × B) → R) → ((a a' : A) (b b' : B) → promise a b → promise a' b' → (a ≡ a') × (b ≡ b'))
    → (r t : R) → FlatAnswer (λ z. promise z.0 z.1) flat r → FlatAnswer (λ z. promise z.0 z.1) flat t → r ≡ t
one_flat_beside promise flat one r t (x, p, e) (y, q, f) =
    let (same, beside) = one x.0 y.0 x.1 y.1 p q in
    e ∙ ap₂ (λ a b. flat (a, b)) same beside ∙ sym f

pub floe_read_set_one_result : (b : List ℕ) (r t : FloeSetRead) → FlatAnswer (ReadAs longest b) flat_set r → FlatAnswer (ReadAs longest b) flat_set t → r ≡ t
floe_read_set_one_result b = one_flat (ReadAs longest b) flat_set (read_one_result longest b)

pub floe_write_set_one_result : (s : LimitSet) (out o o' : List ℕ) (r t : FloeWritten) → FlatAnswer (WrittenAs longest s out o) flat_written r → FlatAnswer (WrittenAs longest s out o') flat_written t
    → (r ≡ t) × (o ≡ o')
floe_write_set_one_result s out = one_flat_lent (λ a o. WrittenAs longest s out o a) flat_written (λ a b o o'. written_one_result longest s out o o' a b)

pub floe_judge_one_result : (b p : List ℕ) (r t : FloeVerdict) → FlatAnswer (JudgedAs longest b p) flat_verdict r → FlatAnswer (JudgedAs longest b p) flat_verdict t → r ≡ t
floe_judge_one_result b p = one_flat (JudgedAs longest b p) flat_verdict (judge_one_result longest b p)

pub floe_compare_one_result : (a b : List ℕ) (r t : FloeComparison) → FlatAnswer (ComparedAs longest a b) flat_comparison r → FlatAnswer (ComparedAs longest a b) flat_comparison t → r ≡ t
floe_compare_one_result a b = one_flat (ComparedAs longest a b) flat_comparison (compare_one_result longest a b)

pub floe_build_one_result : (set work table a b c d : List ℕ) (r t : FloeBuilt) → FlatAnswer (BuiltAs longest set work a table c) flat_built r → FlatAnswer (BuiltAs longest set work b table d) flat_built t
    → (r ≡ t) × (a ≡ b) × (c ≡ d)
floe_build_one_result set work table a b c d r t (x, p, e) (y, q, f) =
    let (same, works, tables) = built_one_result longest set work table a b c d x y p q in
    (e ∙ ap flat_built same ∙ sym f, works, tables)

pub floe_check_table_one_result : (b : List ℕ) (r t : FloeChecked) → FlatAnswer (CheckedAs b) flat_checked r → FlatAnswer (CheckedAs b) flat_checked t → r ≡ t
floe_check_table_one_result b = one_flat (CheckedAs b) flat_checked (checked_one_result b)

pub floe_guard_start_one_result : (b : List ℕ) (r t : FloeStarted) → FlatAnswer (λ a. StartedAs b a.0 a.1) flat_started r → FlatAnswer (λ a. StartedAs b a.0 a.1) flat_started t → r ≡ t
floe_guard_start_one_result b = one_flat_beside (StartedAs b) flat_started (start_one_result b)

pub floe_guard_ask_one_result : (b : List ℕ) (g : Guard) (r t : FloeAsked) → FlatAnswer (λ a. AskedAs b g a.0 a.1) flat_asked r → FlatAnswer (λ a. AskedAs b g a.0 a.1) flat_asked t → r ≡ t
floe_guard_ask_one_result b g = one_flat_beside (AskedAs b g) flat_asked (ask_one_result b g)

pub floe_guard_tell_one_result : (b : List ℕ) (g : Guard) (byte : ℕ) (r t : FloeTold) → FlatAnswer (λ a. ToldAs b g byte a.0 a.1) flat_told r → FlatAnswer (λ a. ToldAs b g byte a.0 a.1) flat_told t → r ≡ t
floe_guard_tell_one_result b g byte = one_flat_beside (ToldAs b g byte) flat_told (tell_one_result b g byte)

module _ (row : List Guard) (job : ℕ) (b : List ℕ) where
  pub floe_row_start_one_result : (z z' : List Guard) (r t : FloeDone) → FlatAnswer (λ a. RowStartedAs row job b a z) flat_start r → FlatAnswer (λ a. RowStartedAs row job b a z') flat_start t → (r ≡ t) × (z ≡ z')
  floe_row_start_one_result = one_flat_lent (RowStartedAs row job b) flat_start (row_start_one_result row job b)

  pub floe_row_ask_one_result : (r t : FloeRowAsked) → FlatAnswer (RowAskedAs row job b) flat_ask r → FlatAnswer (RowAskedAs row job b) flat_ask t → r ≡ t
  floe_row_ask_one_result = one_flat (RowAskedAs row job b) flat_ask (row_ask_one_result row job b)

  pub floe_row_tell_one_result : (byte : ℕ) (z z' : List Guard) (r t : FloeDone) → FlatAnswer (λ a. RowToldAs row job b byte a z) flat_tell r → FlatAnswer (λ a. RowToldAs row job b byte a z') flat_tell t → (r ≡ t) × (z ≡ z')
  floe_row_tell_one_result byte = one_flat_lent (RowToldAs row job b byte) flat_tell (row_tell_one_result row job b byte)

pub floe_carry_write_one_result : (g : Guard) (set out o o' : List ℕ) (r t : FloeWritten) → FlatAnswer (RecordWrittenAs longest carried g set out o) flat_written r → FlatAnswer (RecordWrittenAs longest carried g set out o') flat_written t → (r ≡ t) × (o ≡ o')
floe_carry_write_one_result g set out = one_flat_lent (λ a o. RecordWrittenAs longest carried g set out o a) flat_written (λ a b o o'. record_written_one_result longest carried g set out o o' a b)

pub floe_carry_read_one_result : (r b : List ℕ) (a t : FloeStarted) → FlatAnswer (ReadBackAs longest carried r b) flat_back a → FlatAnswer (ReadBackAs longest carried r b) flat_back t → a ≡ t
floe_carry_read_one_result r b = one_flat (ReadBackAs longest carried r b) flat_back (read_back_one_result longest carried r b)

pub floe_log_write_one_result : (p out o o' : List ℕ) (r t : FloeWritten) → FlatAnswer (LogWrittenAs p out o) flat_written r → FlatAnswer (LogWrittenAs p out o') flat_written t → (r ≡ t) × (o ≡ o')
floe_log_write_one_result p out = one_flat_lent (λ a o. LogWrittenAs p out o a) flat_written (λ a b o o'. log_written_one_result p out o o' a b)

pub floe_log_open_one_result : (b : List ℕ) (r t : FloeLogOpened) → FlatAnswer (OpenedAs b) flat_opened r → FlatAnswer (OpenedAs b) flat_opened t → r ≡ t
floe_log_open_one_result b = one_flat (OpenedAs b) flat_opened (opened_one_result b)

pub floe_log_next_one_result : (b : List ℕ) (place : ℕ) (r t : FloeLogRead) → FlatAnswer (λ a. LogReadAs b place a.0 a.1) flat_log_read r → FlatAnswer (λ a. LogReadAs b place a.0 a.1) flat_log_read t → r ≡ t
floe_log_next_one_result b place = one_flat_beside (LogReadAs b place) flat_log_read (log_read_one_result b place)

pub floe_log_judge_one_result : (b l : List ℕ) (r t : FloeVerdict) → FlatAnswer (LogJudgedAs longest b l) flat_verdict r → FlatAnswer (LogJudgedAs longest b l) flat_verdict t → r ≡ t
floe_log_judge_one_result b l = one_flat (LogJudgedAs longest b l) flat_verdict (log_judge_one_result longest b l)
