-- By which numbers writing a set, the verdict, a night log, a table, a guard's calls, a row's and a carry-over record can be refused. Assumes nothing.
use mathlib.Core.Path.{◌≡◌, refl}
use mathlib.Core.Logic.{◌⊎◌, ⊎_elim, inl, inr}
use mathlib.Core.List.{List, [], ◌∷◌, ◌++◌}
use Prim.Native.Nat.{ℕ, zero, suc, ◌≤◌}
use native.Mathlib.Omega.{arith}
use lib.Dec.{leb, ltb}
use lib.ListN.{length}
use Rattle.layout.specs.Refusal.{Row, row}
use Rattle.layout.specs.Write.{room_row}
use Rattle.layout.proofs.Rows.{Numbers, FromTo, numbers_append, numbers_among}
use Rattle.patterns.specs.Outcome.{outcome_rows}
use Rattle.meaning.specs.declared.LimitSet.{LimitSet}
use Rattle.sets.specs.Bytes.{set_of}
use Rattle.sets.specs.Rows.{set_rows, memory_rows}
use Rattle.sets.specs.Write.{size_of, write_rows}
use Rattle.sets.proofs.Numbers.{SetNumber, set_numbers, set_positive, MemoryNumber, memory_numbers}
use Rattle.verdict.specs.Judge.{pattern_rows, judge_rows}
use Rattle.night_log.specs.Bytes.{size_of as log_size}
use Rattle.night_log.specs.Rows.{log_rows, write_rows as log_write_rows}
use Rattle.night_log.specs.Judge.{log_judge_rows}
use Rattle.table.specs.Bytes.{state_count}
use Rattle.table.specs.Rows.{count_rows, entry_rows, entries_rows, table_rows, look_rows}
use Rattle.guard.specs.declared.Guard.{Guard}
use Rattle.guard.specs.Guard.{most_told, tell_rows}
use Rattle.guard.specs.Row.{guard_at, row_start_rows, row_ask_rows, row_tell_rows}
use Rattle.carry.specs.Bytes.{size_of as record_size, set_in, outcome_bytes, lost_byte}
use Rattle.carry.specs.Rows.{write_rows as record_write_rows, wider, version_rows, led_to, leads_nowhere, read_rows}

-- writing a set: 3, 5, 6, 7, 21, 9
abbrev pub WriteNumber : ℕ → Type 0
WriteNumber n = MemoryNumber n ⊎ (n ≡ 9)

pub write_numbers : (w : ℕ) (s : LimitSet) (out : List ℕ) → Numbers WriteNumber (write_rows w s out)
write_numbers w s out =
    numbers_append WriteNumber (memory_rows w s) (room_row out (size_of s) ∷ [])
    (numbers_among MemoryNumber WriteNumber (λ n h. inl h) (memory_rows w s) (memory_numbers w s)) (inr refl, tt)

-- the verdict: 1 to 7, 21, 26, 13
abbrev pub JudgeNumber : ℕ → Type 0
JudgeNumber n = SetNumber n ⊎ ((n ≡ 26) ⊎ (n ≡ 13))

outcome_numbers : (p : List ℕ) (i : ℕ) → Numbers (λ n. n ≡ 13) (outcome_rows p i)
unfolding outcome_rows
outcome_numbers [] i = tt
outcome_numbers (b ∷ p) i = (refl, outcome_numbers p (suc i))

pub judge_numbers : (w : ℕ) (b p : List ℕ) → Numbers JudgeNumber (judge_rows w b p)
judge_numbers w b p =
    numbers_append JudgeNumber (set_rows w b) (pattern_rows p)
    (numbers_among SetNumber JudgeNumber (λ n h. inl h) (set_rows w b) (set_numbers w b))
    (inr (inl refl), numbers_among (λ n. n ≡ 13) JudgeNumber (λ n h. inr (inr h)) (outcome_rows p 0) (outcome_numbers p 0))

-- a night log: 15 and 16; writing one: 9, 13, 15; judging one: 1 to 7, 21, 15, 16
pub log_numbers : (b : List ℕ) → Numbers (FromTo 15 16) (log_rows b)
log_numbers b = ((omega arith, omega arith), ((omega arith, omega arith), ((omega arith, omega arith), ((omega arith, omega arith), tt))))

abbrev pub LogWriteNumber : ℕ → Type 0
LogWriteNumber n = (n ≡ 15) ⊎ ((n ≡ 13) ⊎ (n ≡ 9))

pub log_write_numbers : (p out : List ℕ) → Numbers LogWriteNumber (log_write_rows p out)
log_write_numbers p out = (
  inl refl,
  numbers_append LogWriteNumber (outcome_rows p 0) (room_row out (log_size (length p)) ∷ [])
      (numbers_among (λ n. n ≡ 13) LogWriteNumber (λ n h. inr (inl h)) (outcome_rows p 0) (outcome_numbers p 0)) (inr (inr refl), tt),
)

abbrev pub LogJudgeNumber : ℕ → Type 0
LogJudgeNumber n = SetNumber n ⊎ FromTo 15 16 n

pub log_judge_numbers : (w : ℕ) (set log : List ℕ) → Numbers LogJudgeNumber (log_judge_rows w set log)
log_judge_numbers w set log =
    numbers_append LogJudgeNumber (set_rows w set) (log_rows log)
    (numbers_among SetNumber LogJudgeNumber (λ n h. inl h) (set_rows w set) (set_numbers w set))
    (numbers_among (FromTo 15 16) LogJudgeNumber (λ n h. inr h) (log_rows log) (log_numbers log))

-- a table, and one of its states
count_numbers : (b : List ℕ) → Numbers (FromTo 10 12) (count_rows b)
count_numbers b = ((omega arith, omega arith), ((omega arith, omega arith), ((omega arith, omega arith), ((omega arith, omega arith), tt))))

entries_numbers : (b : List ℕ) (s n : ℕ) → Numbers (FromTo 10 12) (entries_rows b s n)
unfolding entries_rows
entries_numbers b s zero = tt
entries_numbers b s (suc n) = ((omega arith, omega arith), ((omega arith, omega arith), entries_numbers b (suc s) n))

pub table_numbers : (b : List ℕ) → Numbers (FromTo 10 12) (table_rows b)
table_numbers b = numbers_append (FromTo 10 12) (count_rows b) (entries_rows b 0 (state_count b)) (count_numbers b) (entries_numbers b 0 (state_count b))

pub look_numbers : (b : List ℕ) (s : ℕ) → Numbers (FromTo 10 12) (look_rows b s)
look_numbers b s = numbers_append (FromTo 10 12) (count_rows b) (row 12 (leb (state_count b) s) 0 ∷ entry_rows b s) (count_numbers b) ((omega arith, omega arith), ((omega arith, omega arith), ((omega arith, omega arith), tt)))

-- a tell: 10 to 12, 13, 17
abbrev pub TellNumber : ℕ → Type 0
TellNumber n = FromTo 10 13 n ⊎ (n ≡ 17)

pub tell_numbers : (b : List ℕ) (g : Guard) (byte : ℕ) → Numbers TellNumber (tell_rows b g byte)
tell_numbers b g byte =
    numbers_append TellNumber (look_rows b g.state) (row 13 (ltb 1 byte) 0 ∷ row 17 (leb most_told g.count) 0 ∷ [])
    (numbers_among (FromTo 10 12) TellNumber (λ n (l, h). inl (omega arith, omega arith)) (look_rows b g.state) (look_numbers b g.state))
    (inl (omega arith, omega arith), (inr refl, tt))

pub tell_positive : (n : ℕ) → TellNumber n → 1 ≤ n
tell_positive n = ⊎_elim (λ (l, h). omega arith) (λ e. omega arith)

-- a row's start and ask: 14, 10 to 12, never 13; its tell 10 to 14 and 17
abbrev pub RowNumber : ℕ → Type 0
RowNumber n = (n ≡ 14) ⊎ FromTo 10 12 n

abbrev pub RowTellNumber : ℕ → Type 0
RowTellNumber n = FromTo 10 14 n ⊎ (n ≡ 17)

module _ (r : List Guard) (job : ℕ) (b : List ℕ) where
  pub row_start_numbers : Numbers RowNumber (row_start_rows r job b)
  row_start_numbers = (inl refl, numbers_among (FromTo 10 12) RowNumber (λ n h. inr h) (table_rows b) (table_numbers b))

  pub row_ask_numbers : Numbers RowNumber (row_ask_rows r job b)
  row_ask_numbers = (inl refl, numbers_among (FromTo 10 12) RowNumber (λ n h. inr h) (look_rows b (guard_at r job).state) (look_numbers b (guard_at r job).state))

  pub row_tell_numbers : (byte : ℕ) → Numbers RowTellNumber (row_tell_rows r job b byte)
  row_tell_numbers byte = (
    inl (omega arith, omega arith),
    numbers_among TellNumber RowTellNumber (λ n. ⊎_elim (λ (l, h). inl (omega arith, omega arith)) (λ e. inr e)) (tell_rows b (guard_at r job) byte) (tell_numbers b (guard_at r job) byte),
  )

pub row_tell_positive : (n : ℕ) → RowTellNumber n → 1 ≤ n
row_tell_positive n = ⊎_elim (λ (l, h). omega arith) (λ e. omega arith)

-- a carry-over record: writing 1 to 7, 21 and 9, reading back 18, 1 to 7, 21, 20, 13, 19, 10 to 12, 25
abbrev pub CarryWriteNumber : ℕ → Type 0
CarryWriteNumber n = SetNumber n ⊎ (n ≡ 9)

pub carry_write_numbers : (w h : ℕ) (set out : List ℕ) → Numbers CarryWriteNumber (record_write_rows w h set out)
carry_write_numbers w h set out =
    numbers_append CarryWriteNumber (set_rows w set) (room_row out (record_size h set) ∷ [])
    (numbers_among SetNumber CarryWriteNumber (λ n l. inl l) (set_rows w set) (set_numbers w set)) (inr refl, tt)

pub carry_write_positive : (n : ℕ) → CarryWriteNumber n → 1 ≤ n
carry_write_positive n = ⊎_elim (set_positive n) (λ e. omega arith)

abbrev pub CarryReadNumber : ℕ → Type 0
CarryReadNumber n = SetNumber n ⊎ (FromTo 10 13 n ⊎ (FromTo 18 20 n ⊎ (n ≡ 25)))

module _ (w many v h : ℕ) (r b : List ℕ) where
  among : (Q : ℕ → Type 0) → ((n : ℕ) → Q n → CarryReadNumber n) → (rows : List Row) → Numbers Q rows → Numbers CarryReadNumber rows
  among Q = numbers_among Q CarryReadNumber

  by_18_20 : (n : ℕ) → FromTo 18 20 n → CarryReadNumber n
  by_18_20 n l = inr (inr (inl l))

  by_10_13 : (n : ℕ) → FromTo 10 13 n → CarryReadNumber n
  by_10_13 n l = inr (inl l)

  abbrev lost_row : List Row
  lost_row = row 19 (ltb 1 (lost_byte r)) 0 ∷ []

  abbrev width_row : Row
  width_row = row 20 (wider (suc h) (set_of (set_in h r))) 0

  outcomes_numbers : Numbers CarryReadNumber (outcome_rows (outcome_bytes h r) 0 ++ lost_row)
  outcomes_numbers =
      numbers_append CarryReadNumber (outcome_rows (outcome_bytes h r) 0) lost_row
      (among (λ n. n ≡ 13) (λ n e. by_10_13 n (omega arith, omega arith)) (outcome_rows (outcome_bytes h r) 0) (outcome_numbers (outcome_bytes h r) 0))
      (by_18_20 19 (omega arith, omega arith), tt)

  record_numbers : Numbers CarryReadNumber (version_rows w v h r)
  record_numbers = (
    by_18_20 18 (omega arith, omega arith),
    (
      by_18_20 18 (omega arith, omega arith),
      numbers_append CarryReadNumber (set_rows w (set_in h r)) (width_row ∷ (outcome_rows (outcome_bytes h r) 0 ++ lost_row))
          (among SetNumber (λ n l. inl l) (set_rows w (set_in h r)) (set_numbers w (set_in h r))) (by_18_20 20 (omega arith, omega arith), outcomes_numbers),
    ),
  )

  pub carry_read_numbers : Numbers CarryReadNumber (read_rows w many v h r b)
  carry_read_numbers =
      numbers_append CarryReadNumber (version_rows w v h r) (table_rows b ++ row 25 (leads_nowhere (led_to many h r b)) 0 ∷ []) record_numbers
      (numbers_append CarryReadNumber (table_rows b) (row 25 (leads_nowhere (led_to many h r b)) 0 ∷ [])
      (among (FromTo 10 12) (λ n (l, g). by_10_13 n (omega arith, omega arith)) (table_rows b) (table_numbers b)) (inr (inr (inr refl)), tt))

pub carry_read_positive : (n : ℕ) → CarryReadNumber n → 1 ≤ n
carry_read_positive n = ⊎_elim (set_positive n) (⊎_elim (λ (l, h). omega arith) (⊎_elim (λ (l, h). omega arith) (λ e. omega arith)))
