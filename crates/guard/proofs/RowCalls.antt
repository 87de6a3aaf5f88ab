-- A call on a row is refused by 14 where the row has no such job, and is else the call on that job's guard. Assumes nothing.
use mathlib.Core.Path.{◌≡◌, refl, sym, ap, ◌∙◌}
use mathlib.Core.Bool.{Bool, true, false}
use mathlib.Core.List.{List}
use Prim.Native.Nat.{ℕ}
use lib.ListN.{length, set}
use lib.Seq.{set-get_or}
use Rattle.std.specs.Prelude.{⊤, Result, Err}
use Rattle.layout.specs.declared.Refused.{Refused}
use Rattle.layout.specs.declared.Refused.TheVariants.{Job}
use Rattle.table.specs.Shared.{Tested, passed, refused, first, outcome, Machine}
use Rattle.table.specs.Bytes.{machine_of}
use Rattle.table.specs.Rows.{table_rows}
use Rattle.table.proofs.Shared.{first_here, first_skip}
use Rattle.guard.specs.declared.Guard.{Guard}
use Rattle.guard.specs.declared.Answer.{Answer}
use Rattle.guard.specs.Guard.{fresh, AskedAs, tell_rows, told_when, ToldAs}
use Rattle.guard.specs.Row.{guard_at, outside, anew_when, AnewAs, row_started_when, RowStartedAs, RowAskedAs, row_told_when, RowToldAs}

module _ (r : List Guard) (job : ℕ) (b : List ℕ) (e : outside (length r) job ≡ true) where
  pub start_outside : RowStartedAs r job b (Err Job) r
  start_outside = let f = first_here 14 0 _ (table_rows b) e in record { refusal = sym f; row = sym (ap (λ t. row_started_when t r job) f) }

  pub ask_outside : RowAskedAs r job b (Err Job)
  ask_outside = record { refusal = sym (first_here 14 0 _ _ e); answer = tt }

  pub tell_outside : (byte : ℕ) → RowToldAs r job b byte (Err Job) r
  tell_outside byte =
      let f = first_here 14 0 _ (tell_rows b (guard_at r job) byte) e in
      record { refusal = sym f; row = sym (ap (λ t. row_told_when t (machine_of b) r job (outcome byte)) f) }

module _ (r : List Guard) (job : ℕ) (b : List ℕ) (e : outside (length r) job ≡ false) where
  pub start_inside : (a : Result ⊤ Refused) (g : Guard) → AnewAs b (guard_at r job) a g → RowStartedAs r job b a (set r job g)
  start_inside a g anew =
      let f = first_skip 14 0 _ (table_rows b) e in
      record {
        refusal = anew.refusal ∙ sym f;
        row = ap (set r job) anew.guard ∙ put (first (table_rows b)) ∙ sym (ap (λ t. row_started_when t r job) f);
      }
    where
      put : (t : Tested) → set r job (anew_when t (guard_at r job)) ≡ row_started_when t r job
      put passed = refl
      put (refused number at) = set-get_or r job fresh

  pub ask_inside : (a : Result Answer Refused) (g : Guard) → AskedAs b (guard_at r job) a g → RowAskedAs r job b a
  ask_inside a g asked = record { refusal = asked.refusal ∙ sym (first_skip 14 0 _ _ e); answer = asked.answer }

  pub tell_inside : (byte : ℕ) (a : Result ⊤ Refused) (g : Guard) → ToldAs b (guard_at r job) byte a g → RowToldAs r job b byte a (set r job g)
  tell_inside byte a g told =
      let f = first_skip 14 0 _ (tell_rows b (guard_at r job) byte) e in
      record {
        refusal = told.refusal ∙ sym f;
        row = ap (set r job) told.guard ∙ put (first (tell_rows b (guard_at r job) byte)) (machine_of b) (outcome byte) ∙ sym (ap (λ z. row_told_when z (machine_of b) r job (outcome byte)) f);
      }
    where
      put : (z : Tested) (m : Machine) (o : Bool) → set r job (told_when z m (guard_at r job) o) ≡ row_told_when z m r job o
      put passed m o = refl
      put (refused number at) m o = set-get_or r job fresh
