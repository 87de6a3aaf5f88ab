-- Starting or telling one job changes its guard only, so what another job hears stays the same; and a refused call leaves the whole row. Assumes nothing.
use mathlib.Core.Path.{◌≡◌, refl, sym, ap, ap₂, subst, ◌∙◌}
use mathlib.Core.Logic.{◌↔◌}
use mathlib.Core.List.{List, ◌∷◌}
use Prim.Native.Nat.{ℕ}
use lib.ListN.{length, set, length-set}
use lib.Seq.{get_or-set_other}
use Rattle.std.specs.Prelude.{⊤, Result, Err}
use Rattle.layout.specs.declared.Refused.{Refused}
use Rattle.table.specs.Shared.{row, Tested, passed, refused, first, outcome}
use Rattle.table.specs.Bytes.{machine_of}
use Rattle.table.specs.Rows.{look_rows}
use Rattle.guard.specs.declared.Guard.{Guard}
use Rattle.guard.specs.declared.Answer.{Answer}
use Rattle.guard.specs.Guard.{fresh, Standing, after, tell_rows}
use Rattle.guard.specs.Row.{guard_at, outside, ChangesOnly, row_start_rows, row_started_when, RowStartedAs, RowAskedAs, row_tell_rows, row_told_when, RowToldAs}

unchanged : (r : List Guard) (job : ℕ) → ChangesOnly job r r
unchanged r job = record { count = refl; others = λ other d. refl }

one_changed : (r : List Guard) (job : ℕ) (g : Guard) → ChangesOnly job r (set r job g)
one_changed r job g = record { count = length-set r job g; others = λ other d. get_or-set_other r job other g fresh d }

module _ (r : List Guard) (job : ℕ) (b : List ℕ) where
  pub others_stay_at_start : {a : Result ⊤ Refused} {r' : List Guard} → RowStartedAs r job b a r' → ChangesOnly job r r'
  others_stay_at_start started = subst (ChangesOnly job r) (sym started.row) (go (first (row_start_rows r job b)))
    where
      go : (t : Tested) → ChangesOnly job r (row_started_when t r job)
      go passed = one_changed r job fresh
      go (refused number at) = unchanged r job

  pub others_stay_at_tell : (byte : ℕ) {a : Result ⊤ Refused} {r' : List Guard} → RowToldAs r job b byte a r' → ChangesOnly job r r'
  others_stay_at_tell byte told = subst (ChangesOnly job r) (sym told.row) (go (first (row_tell_rows r job b byte)))
    where
      go : (t : Tested) → ChangesOnly job r (row_told_when t (machine_of b) r job (outcome byte))
      go passed = one_changed r job (after (machine_of b) (guard_at r job) (outcome byte))
      go (refused number at) = unchanged r job

  pub refused_start_leaves_row : {why : Refused} {r' : List Guard} → RowStartedAs r job b (Err why) r' → r' ≡ r
  refused_start_leaves_row started = started.row ∙ sym (ap (λ t. row_started_when t r job) started.refusal)

  pub refused_tell_leaves_row : (byte : ℕ) {why : Refused} {r' : List Guard} → RowToldAs r job b byte (Err why) r' → r' ≡ r
  refused_tell_leaves_row byte told = told.row ∙ sym (ap (λ t. row_told_when t (machine_of b) r job (outcome byte)) told.refusal)

-- what a job hears depends on the count and on its own guard only
module _ (b : List ℕ) (other : ℕ) where
  -- two rows of one count that have the same guard of this job
  abbrev Alike : List Guard → List Guard → Type 0
  Alike r r' = (length r ≡ length r') × (guard_at r other ≡ guard_at r' other)

  hears : {a : Result Answer Refused} (r r' : List Guard) → Alike r r' → RowAskedAs r other b a → RowAskedAs r' other b a
  hears {a} r r' (count, own) asked = record {
    refusal = asked.refusal ∙ ap₂ (λ n g. first (row 14 (outside n other) 0 ∷ look_rows b g.state)) count own;
    answer = subst (λ g. Standing (machine_of b) g a) own asked.answer;
  }

  is_told : {a : Result ⊤ Refused} (byte : ℕ) (r r' : List Guard) → Alike r r' → (z : List Guard) × RowToldAs r other b byte a z → (z : List Guard) × RowToldAs r' other b byte a z
  is_told byte r r' (count, own) (z, told) = (
    row_told_when (first (row_tell_rows r' other b byte)) (machine_of b) r' other (outcome byte),
    record { refusal = told.refusal ∙ ap₂ (λ n g. first (row 14 (outside n other) 0 ∷ tell_rows b g byte)) count own; row = refl },
  )

  module _ (job : ℕ) (r r' : List Guard) (c : ChangesOnly job r r') (d : other ≡ job → ⊥) where
    before : Alike r' r
    before = (c.count, c.others other d)

    then : Alike r r'
    then = (sym c.count, sym (c.others other d))

    pub others_hear_the_same : (a : Result Answer Refused) → RowAskedAs r other b a ↔ RowAskedAs r' other b a
    others_hear_the_same a = (hears r r' then, hears r' r before)

    -- whatever the row is then
    pub others_are_told_the_same : (byte : ℕ) (a : Result ⊤ Refused) → ((z : List Guard) × RowToldAs r other b byte a z) ↔ ((z : List Guard) × RowToldAs r' other b byte a z)
    others_are_told_the_same byte a = (is_told byte r r' then, is_told byte r' r before)
