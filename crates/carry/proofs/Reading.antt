-- What reading back promises, from the rows that decide: one law for each way that it ends. Assumes nothing.
use mathlib.Core.Path.{◌≡◌, refl, sym, ap, ◌∙◌}
use mathlib.Core.Option.{none, some}
use mathlib.Core.List.{List, [], ◌∷◌, ◌++◌}
use Prim.Native.Nat.{ℕ}
use Rattle.std.specs.Prelude.{Result, Ok, Err}
use Rattle.layout.specs.declared.Refused.{Refused}
use Rattle.layout.specs.declared.Refused.TheVariants.{Walk}
use Rattle.layout.specs.Refusal.{Row, row, Tested, passed, first}
use Rattle.layout.specs.Refused.{row_of, says}
use Rattle.layout.proofs.Rows.{refused_before, passed_before, first_here, first_skip}
use Rattle.table.specs.Rows.{table_rows}
use Rattle.guard.specs.declared.Guard.{Guard}
use Rattle.carry.specs.Rows.{version_rows, led_to, leads_nowhere, read_rows}
use Rattle.carry.specs.Read.{guard_in, guard_at, guard_when, ReadInVersion}

module _ (w n v h : ℕ) (r b : List ℕ) where
  -- the rows that are left after the record's
  abbrev after_record : List Row
  after_record = table_rows b ++ row 25 (leads_nowhere (led_to n h r b)) 0 ∷ []

  decided : (t : Tested) (back : Result Guard Refused) → first (read_rows w n v h r b) ≡ t → says back ≡ t → guard_in back ≡ guard_when t n h r b → ReadInVersion w n v h r b back
  decided t back e s g = record { refusal = s ∙ sym e; guard = g ∙ sym (ap (λ z. guard_when z n h r b) e) }

  pub back_refused : (e : Refused) → first (version_rows w v h r) ≡ row_of e → ReadInVersion w n v h r b (Err e)
  back_refused e f = decided (row_of e) (Err e) (refused_before (version_rows w v h r) after_record f) refl refl

  module _ (accepted : first (version_rows w v h r) ≡ passed) where
    pub back_table : (e : Refused) → first (table_rows b) ≡ row_of e → ReadInVersion w n v h r b (Err e)
    back_table e f = decided (row_of e) (Err e) (passed_before (version_rows w v h r) after_record accepted ∙ refused_before (table_rows b) _ f) refl refl

    module _ (checked : first (table_rows b) ≡ passed) where
      left_25 : first (read_rows w n v h r b) ≡ first (row 25 (leads_nowhere (led_to n h r b)) 0 ∷ [])
      left_25 = passed_before (version_rows w v h r) after_record accepted ∙ passed_before (table_rows b) _ checked

      pub back_nowhere : led_to n h r b ≡ none → ReadInVersion w n v h r b (Err Walk)
      back_nowhere e = decided (row_of Walk) (Err Walk) (left_25 ∙ first_here 25 0 _ [] (ap leads_nowhere e)) refl refl

      pub back_led : (s : ℕ) → led_to n h r b ≡ some s → ReadInVersion w n v h r b (Ok (guard_at (some s) n h r))
      unfolding first
      back_led s e =
          decided passed (Ok (guard_at (some s) n h r))
          (left_25 ∙ first_skip 25 0 _ [] (ap leads_nowhere e)) refl (sym (ap (λ z. guard_at z n h r) e))
