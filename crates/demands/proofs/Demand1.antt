-- Demand 1: "Sets of limits, patterns and tables may be any bytes of any length. Every public entry judges them itself and ends. It refuses only by the numbers of the rules, in their order, and a refusal writes nothing, except that a work area already in use comes back cleared."
-- Each entry is refused exactly by the first row that holds of its table, and by no number but its own; what was lent to a refused call is as it was. (The boundary's flat fields: `Boundary`. The night log and the carry-over record: `NightLog`, `Carried`. The printed line's, of which this file passes the theorems on: `printing/proofs/Refuses`.) That every entry ends is what the checker proves of every function. Assumes nothing.
use mathlib.Core.Path.{◌≡◌, ap, ◌∙◌, subst}
use mathlib.Core.Logic.{◌↔◌}
use mathlib.Core.List.{List}
use Prim.Native.Nat.{ℕ}
use Rattle.std.specs.Prelude.{⊤, Option, Result}
use Rattle.layout.specs.declared.Refused.{Refused}
use Rattle.layout.specs.Refusal.{passed, refused, first}
use Rattle.layout.proofs.Rows.{FromTo}
use Rattle.layout.proofs.Write.{refused_leaves_buffer}
use Rattle.patterns.specs.Outcome.{outcome}
use Rattle.machines.specs.Machine.{Machine}
use Rattle.machines.specs.Canonical.{Canonical}
use Rattle.meaning.specs.declared.LimitSet.{LimitSet}
use Rattle.meaning.specs.Longest.{longest}
use Rattle.meaning.specs.Sets.{KeptBy}
use Rattle.sets.specs.Bytes.{set_of}
use Rattle.sets.specs.Rows.{set_rows}
use Rattle.sets.specs.Read.{ReadAs}
use Rattle.sets.specs.Write.{write_rows, WrittenAs}
use Rattle.sets.proofs.Numbers.{SetNumber, set_numbers}
use Rattle.verdict.specs.declared.Loss.{Loss}
use Rattle.verdict.specs.Judge.{judge_rows, JudgedAs}
use Rattle.compare.specs.declared.Pattern.{Pattern}
use Rattle.compare.specs.declared.RefusedSet.{RefusedSet}
use Rattle.compare.specs.Compare.{in_turn, one_refused, ComparedAs}
use Rattle.table.specs.Bytes.{machine_of, size_of}
use Rattle.table.specs.Rows.{table_rows, look_rows}
use Rattle.table.specs.Check.{CheckedAs}
use Rattle.builder.specs.Build.{early_rows, build_rows, Cleared, BuiltAs}
use Rattle.builder.proofs.Numbers.{BuildNumber, early_numbers, build_numbers, work_by_number}
use Rattle.guard.specs.declared.Guard.{Guard}
use Rattle.guard.specs.declared.Answer.{Answer}
use Rattle.guard.specs.Guard.{StartedAs, AskedAs, tell_rows, told_when, ToldAs}
use Rattle.guard.specs.Row.{row_start_rows, RowStartedAs, row_ask_rows, RowAskedAs, row_tell_rows, RowToldAs}
use Rattle.guard.proofs.RowLaws.{refused_start_leaves_row, refused_tell_leaves_row}
pub use Rattle.printing.proofs.Refuses.{print_refuses, print_refused_by, refused_print_leaves_table, refused_print_leaves_work}
use Rattle.demands.specs.Refusing.{RefusedBy, SetRefusedBy, Refuses}
use Rattle.demands.proofs.Numbers.{WriteNumber, write_numbers, JudgeNumber, judge_numbers, table_numbers, look_numbers, TellNumber, tell_numbers, RowNumber, row_start_numbers, row_ask_numbers, RowTellNumber, row_tell_numbers}
use Rattle.demands.proofs.Answers.{by_compared, one_of, one_size}
use Rattle.demands.proofs.Refusing.{refuses}

-- Reading a set, in either edition: `widest` is its longest window.
pub read_refuses : (widest : ℕ) (b : List ℕ) (r : Result LimitSet Refused) → ReadAs widest b r → Refuses SetNumber (first (set_rows widest b)) r
read_refuses widest b r read = refuses SetNumber (set_rows widest b) r (set_numbers widest b) read.answer

-- Writing one.
module _ (s : LimitSet) (out out' : List ℕ) (r : Result ℕ Refused) (written : WrittenAs longest s out out' r) where
  pub write_refuses : Refuses WriteNumber (first (write_rows longest s out)) r
  write_refuses = refuses WriteNumber (write_rows longest s out) r (write_numbers longest s out) written.answer

  pub refused_write_leaves_buffer : (n v : ℕ) → RefusedBy r n v → out' ≡ out
  refused_write_leaves_buffer n v e = refused_leaves_buffer written ((write_refuses.exactly n v).0 e)

-- The verdict.
pub judge_refuses : (b p : List ℕ) (r : Result (Option Loss) Refused) → JudgedAs longest b p r → Refuses JudgeNumber (first (judge_rows longest b p)) r
judge_refuses b p r judged = refuses JudgeNumber (judge_rows longest b p) r (judge_numbers longest b p) judged.refusal

-- The comparison, which says which set.
module _ (a b : List ℕ) (r : Result (Option Pattern) RefusedSet) (compared : ComparedAs longest a b r) where
  pub compare_refuses : (which n v : ℕ) → SetRefusedBy r which n v ↔ (in_turn (first (set_rows longest a)) (first (set_rows longest b)) ≡ one_refused which n v)
  compare_refuses = by_compared r compared.refusal

  pub compare_refused_by : (which n v : ℕ) → SetRefusedBy r which n v → FromTo 1 2 which × SetNumber n
  compare_refused_by which n v e = one_of (set_rows longest a) (set_rows longest b) (set_numbers longest a) (set_numbers longest b) ((compare_refuses which n v).0 e)

-- The builder, in either edition. The n of 7+4n is that of the canonical machine, whichever stands for it.
module _ (widest : ℕ) (set work work' table table' : List ℕ) (r : Result ℕ Refused) (built : BuiltAs widest set work work' table table' r) where
  pub build_refuses : (m : Machine) → (first (early_rows widest set work) ≡ passed → Canonical m (KeptBy (set_of set)))
      → Refuses BuildNumber (first (build_rows widest set work table (size_of m.states))) r
  build_refuses m canonical =
      refuses BuildNumber (build_rows widest set work table (size_of m.states)) r (build_numbers widest set work table (size_of m.states))
      (built.1.written.answer ∙ one_size widest set work table built.0 m built.1.canonical canonical)

  module _ (n v : ℕ) (e : RefusedBy r n v) where
    rows_refused : first (build_rows widest set work table (size_of built.0.states)) ≡ refused n v
    rows_refused = ((build_refuses built.0 built.1.canonical).exactly n v).0 e

    pub refused_build_leaves_table : table' ≡ table
    refused_build_leaves_table = refused_leaves_buffer built.1.written rows_refused

    -- By 9 the work area is cleared, by every other number it is as it was.
    pub refused_build_work : ((n ≡ 9 → ⊥) → work' ≡ work) × (n ≡ 9 → Cleared widest work work')
    refused_build_work = work_by_number (early_rows widest set work) table (size_of built.0.states) (early_numbers widest set work) widest work work' n v rows_refused built.1.work_after

-- The table check, and the guard's calls.
pub check_refuses : (b : List ℕ) (r : Result ℕ Refused) → CheckedAs b r → Refuses (FromTo 10 12) (first (table_rows b)) r
check_refuses b r checked = refuses (FromTo 10 12) (table_rows b) r (table_numbers b) checked.refusal

pub start_refuses : (b : List ℕ) (r : Result ⊤ Refused) (g : Guard) → StartedAs b r g → Refuses (FromTo 10 12) (first (table_rows b)) r
start_refuses b r g started = refuses (FromTo 10 12) (table_rows b) r (table_numbers b) started.refusal

pub ask_refuses : (b : List ℕ) (g : Guard) (r : Result Answer Refused) (g' : Guard) → AskedAs b g r g' → Refuses (FromTo 10 12) (first (look_rows b g.state)) r
ask_refuses b g r g' asked = refuses (FromTo 10 12) (look_rows b g.state) r (look_numbers b g.state) asked.refusal

module _ (b : List ℕ) (g : Guard) (byte : ℕ) (r : Result ⊤ Refused) (g' : Guard) (told : ToldAs b g byte r g') where
  pub tell_refuses : Refuses TellNumber (first (tell_rows b g byte)) r
  tell_refuses = refuses TellNumber (tell_rows b g byte) r (tell_numbers b g byte) told.refusal

  pub refused_tell_leaves_guard : (n v : ℕ) → RefusedBy r n v → g' ≡ g
  refused_tell_leaves_guard n v e = told.guard ∙ ap (λ t. told_when t (machine_of b) g (outcome byte)) ((tell_refuses.exactly n v).0 e)

-- The row's calls.
module _ (r : List Guard) (job : ℕ) (b : List ℕ) where
  module _ (a : Result ⊤ Refused) (r' : List Guard) (started : RowStartedAs r job b a r') where
    pub row_start_refuses : Refuses RowNumber (first (row_start_rows r job b)) a
    row_start_refuses = refuses RowNumber (row_start_rows r job b) a (row_start_numbers r job b) started.refusal

    pub refused_row_start_leaves_row : (n v : ℕ) → RefusedBy a n v → r' ≡ r
    refused_row_start_leaves_row n v (why, is, row) = refused_start_leaves_row r job b (subst (λ z. RowStartedAs r job b z r') is started)

  pub row_ask_refuses : (a : Result Answer Refused) → RowAskedAs r job b a → Refuses RowNumber (first (row_ask_rows r job b)) a
  row_ask_refuses a asked = refuses RowNumber (row_ask_rows r job b) a (row_ask_numbers r job b) asked.refusal

  module _ (byte : ℕ) (a : Result ⊤ Refused) (r' : List Guard) (told : RowToldAs r job b byte a r') where
    pub row_tell_refuses : Refuses RowTellNumber (first (row_tell_rows r job b byte)) a
    row_tell_refuses = refuses RowTellNumber (row_tell_rows r job b byte) a (row_tell_numbers r job b byte) told.refusal

    pub refused_row_tell_leaves_row : (n v : ℕ) → RefusedBy a n v → r' ≡ r
    refused_row_tell_leaves_row n v (why, is, row) = refused_tell_leaves_row r job b byte (subst (λ z. RowToldAs r job b byte z r') is told)
