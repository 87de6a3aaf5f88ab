-- RULES, The row: "A row is a slice of guard records that the caller lends to each call: one table, one guard for each job, at most 16. Start, ask and tell name a job by its number, from 0, and are the calls above on that job's guard."
use Rattle.std.specs.Prelude.{◌≡◌, Bool, true, false, ◌||◌, List, ◌∷◌, ℕ, ◌<◌, leb, ltb, length, get_or, set, ⊤, Result, Ok, Err}
use Rattle.layout.specs.declared.Refused.{Refused}
use Rattle.layout.specs.declared.Refused.TheVariants.{Job}
use Rattle.layout.specs.Refused.{says}
use Rattle.table.specs.Shared.{Row, row, Tested, passed, refused, first, outcome, Machine}
use Rattle.table.specs.Bytes.{machine_of}
use Rattle.table.specs.Rows.{table_rows, look_rows}
use Rattle.guard.specs.declared.Guard.{Guard}
use Rattle.guard.specs.declared.Answer.{Answer}
use Rattle.guard.specs.Guard.{fresh, Standing, after, tell_rows}

abbrev pub most_guards : ℕ
most_guards = 16

abbrev pub guard_at : List Guard → ℕ → Guard
guard_at r job = get_or r job fresh

-- RULES, Refusals, 14: "the job's number, from 0, isn't below the count of guards in the row, or that count is more than 16"
abbrev pub outside : ℕ → ℕ → Bool
outside count job = leb count job || ltb most_guards count

-- what a test of the job's number answers
abbrev pub InRow : (count job : ℕ) → Result ⊤ Refused → Type 0
InRow count job (Ok x) = (outside count job ≡ false) × (job < count)
InRow count job (Err why) = (outside count job ≡ true) × (why ≡ Job)

-- RULES, What each entry tests, start, ask and tell in a row: "14; then as the call on a single guard"
abbrev pub job_row : List Guard → ℕ → Row
job_row r job = row 14 (outside (length r) job) 0

-- RULES, The row: "No other guard changes"
pub record ChangesOnly (job : ℕ) (r r' : List Guard) : Type 0 where
  pub count : length r' ≡ length r
  pub others : (other : ℕ) → (other ≡ job → ⊥) → guard_at r' other ≡ guard_at r other

-- a guard started anew. RULES, What a refusal leaves: "a refused start in a row leaves the old guard"
abbrev pub anew_when : Tested → Guard → Guard
anew_when passed g = fresh
anew_when (refused number at) g = g

pub record AnewAs (b : List ℕ) (g : Guard) (r : Result ⊤ Refused) (g' : Guard) : Type 0 where
  pub refusal : says r ≡ first (table_rows b)
  pub guard : g' ≡ anew_when (first (table_rows b)) g

-- start: the answer, and the row then
abbrev pub row_start_rows : List Guard → ℕ → List ℕ → List Row
row_start_rows r job b = job_row r job ∷ table_rows b

abbrev pub row_started_when : Tested → List Guard → ℕ → List Guard
row_started_when passed r job = set r job fresh
row_started_when (refused number at) r job = r

pub record RowStartedAs (r : List Guard) (job : ℕ) (b : List ℕ) (a : Result ⊤ Refused) (r' : List Guard) : Type 0 where
  pub refusal : says a ≡ first (row_start_rows r job b)
  pub row : r' ≡ row_started_when (first (row_start_rows r job b)) r job

-- ask: the answer; the row is only read
abbrev pub row_ask_rows : List Guard → ℕ → List ℕ → List Row
row_ask_rows r job b = job_row r job ∷ look_rows b (guard_at r job).state

pub record RowAskedAs (r : List Guard) (job : ℕ) (b : List ℕ) (a : Result Answer Refused) : Type 0 where
  pub refusal : says a ≡ first (row_ask_rows r job b)
  pub answer : Standing (machine_of b) (guard_at r job) a

-- tell: the answer, and the row then
abbrev pub row_tell_rows : List Guard → ℕ → List ℕ → ℕ → List Row
row_tell_rows r job b byte = job_row r job ∷ tell_rows b (guard_at r job) byte

abbrev pub row_told_when : Tested → Machine → List Guard → ℕ → Bool → List Guard
row_told_when passed m r job o = set r job (after m (guard_at r job) o)
row_told_when (refused number at) m r job o = r

pub record RowToldAs (r : List Guard) (job : ℕ) (b : List ℕ) (byte : ℕ) (a : Result ⊤ Refused) (r' : List Guard) : Type 0 where
  pub refusal : says a ≡ first (row_tell_rows r job b byte)
  pub row : r' ≡ row_told_when (first (row_tell_rows r job b byte)) (machine_of b) r job (outcome byte)
