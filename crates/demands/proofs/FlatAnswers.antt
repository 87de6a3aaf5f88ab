-- What the flat form of an answer says: its number and what else is returned are those of the answer, and what a guard or a verdict answers is known from its fields. Assumes nothing.
use mathlib.Core.Path.{◌≡◌, refl, ap, ap₂, ◌∙◌}
use mathlib.Core.Logic.Iff
use mathlib.Core.Logic.{◌↔◌, ◌⊎◌, inl, inr}
use mathlib.Core.Bool.{Bool}
use mathlib.Core.List.{List}
use Prim.Native.Nat.{ℕ, ◌≤◌}
use native.Mathlib.Omega.{arith}
use lib.IntN.{ℤ}
use Rattle.std.specs.Prelude.{⊤, true, false, Option, Some, None, Result, Ok, Err}
use Rattle.layout.specs.declared.Refused.{Refused}
use Rattle.layout.specs.Refusal.{Row, Tested, first}
use Rattle.layout.specs.Refused.{number_of as own_number, beside, says}
use Rattle.layout.proofs.Rows.{Numbers}
use Rattle.meaning.specs.declared.LimitSet.{LimitSet}
use Rattle.verdict.specs.declared.Loss.{Loss}
use Rattle.guard.specs.declared.Guard.{Guard}
use Rattle.guard.specs.declared.Answer.{Answer}
use Rattle.guard.specs.declared.Answer.TheVariants.{Normal, Panic, Lost}
use Rattle.flat.specs.Flat.{flat_set, flat_written, flat_verdict, flat_built, flat_checked, flat_start, flat_back, flat_ask, flat_tell, flat_opened, flat_read}
use Rattle.demands.specs.Refusing.{RefusedBy, RefusesFlat}
use Rattle.demands.specs.Judging.{lost_at}
use Rattle.demands.specs.Guarding.{ByKept, ByKeptFlat}
use Rattle.demands.proofs.Refusing.{number_of, at_of, refuses_flat}

-- the first two fields of a flat record say what the answer says
abbrev pub Opens : Tested → (refused at : ℕ) → Type 0
Opens t refused at = (refused ≡ number_of t) × (at ≡ at_of t)

pub opens_refuses : (Number : ℕ → Type 0) (rows : List Row) {refused at : ℕ} {t : Tested} → ((n : ℕ) → Number n → 1 ≤ n) → Numbers Number rows
    → Opens t refused at → t ≡ first rows → RefusesFlat Number (first rows) refused at
opens_refuses Number rows {refused} {at} positive all (a, b) e = refuses_flat Number rows refused at positive all (a ∙ ap number_of e) (b ∙ ap at_of e)

pub set_opens : (a : Result LimitSet Refused) → Opens (says a) (flat_set a).refused (flat_set a).at
set_opens (Ok x) = (refl, refl)
set_opens (Err why) = (refl, refl)

pub written_opens : (a : Result ℕ Refused) → Opens (says a) (flat_written a).refused (flat_written a).at
written_opens (Ok x) = (refl, refl)
written_opens (Err why) = (refl, refl)

pub verdict_opens : (a : Result (Option Loss) Refused) → Opens (says a) (flat_verdict a).refused (flat_verdict a).at
verdict_opens (Ok None) = (refl, refl)
verdict_opens (Ok (Some l)) = (refl, refl)
verdict_opens (Err why) = (refl, refl)

pub built_opens : (a : Result ℕ Refused) → Opens (says a) (flat_built a).refused (flat_built a).at
built_opens (Ok x) = (refl, refl)
built_opens (Err why) = (refl, refl)

pub checked_opens : (a : Result ℕ Refused) → Opens (says a) (flat_checked a).refused (flat_checked a).at
checked_opens (Ok x) = (refl, refl)
checked_opens (Err why) = (refl, refl)

pub start_opens : (a : Result ⊤ Refused) → Opens (says a) (flat_start a).refused (flat_start a).at
start_opens (Ok x) = (refl, refl)
start_opens (Err why) = (refl, refl)

pub back_opens : (a : Result Guard Refused) → Opens (says a) (flat_back a).refused (flat_back a).at
back_opens (Ok x) = (refl, refl)
back_opens (Err why) = (refl, refl)

pub ask_opens : (a : Result Answer Refused) → Opens (says a) (flat_ask a).refused (flat_ask a).at
ask_opens (Ok Normal) = (refl, refl)
ask_opens (Ok Panic) = (refl, refl)
ask_opens (Ok Lost) = (refl, refl)
ask_opens (Err why) = (refl, refl)

pub tell_opens : (a : Result ⊤ Refused) → Opens (says a) (flat_tell a).refused (flat_tell a).at
tell_opens (Ok x) = (refl, refl)
tell_opens (Err why) = (refl, refl)

pub opening_opens : (a : Result ⊤ Refused) → Opens (says a) (flat_opened a).refused (flat_opened a).at
opening_opens (Ok x) = (refl, refl)
opening_opens (Err why) = (refl, refl)

pub read_opens : (a : Result (Option Bool) Refused) (place : ℕ) → Opens (says a) (flat_read a place).refused (flat_read a place).at
read_opens (Ok (Some true)) place = (refl, refl)
read_opens (Ok (Some false)) place = (refl, refl)
read_opens (Ok None) place = (refl, refl)
read_opens (Err why) place = (refl, refl)

pub read_place : (a : Result (Option Bool) Refused) (place : ℕ) → (flat_read a place).place ≡ place
read_place (Ok (Some true)) place = refl
read_place (Ok (Some false)) place = refl
read_place (Ok None) place = refl
read_place (Err why) place = refl

-- a guard's answer by its field
module _ (s : LimitSet) (p : List Bool) (a : Result Answer Refused) (answers : ByKept s p a) where
  pub answers_flat : ByKeptFlat s p (flat_ask a).answer
  answers_flat = record {
    normal = Iff.trans (normal a, ap (λ z. (flat_ask z).answer)) answers.normal;
    panic = Iff.trans (panic a, ap (λ z. (flat_ask z).answer)) answers.panic;
    lost = Iff.trans (lost a, ap (λ z. (flat_ask z).answer)) answers.lost;
  }
    where
      normal : (a : Result Answer Refused) → (flat_ask a).answer ≡ 0 → a ≡ (Ok Normal)
      normal (Ok Normal) z = refl
      normal (Ok Panic) z = absurd (omega arith)
      normal (Ok Lost) z = absurd (omega arith)
      normal (Err why) z = absurd (omega arith)

      panic : (a : Result Answer Refused) → (flat_ask a).answer ≡ 1 → a ≡ (Ok Panic)
      panic (Ok Normal) z = absurd (omega arith)
      panic (Ok Panic) z = refl
      panic (Ok Lost) z = absurd (omega arith)
      panic (Err why) z = absurd (omega arith)

      lost : (a : Result Answer Refused) → (flat_ask a).answer ≡ 2 → a ≡ (Ok Lost)
      lost (Ok Normal) z = absurd (omega arith)
      lost (Ok Panic) z = absurd (omega arith)
      lost (Ok Lost) z = refl
      lost (Err why) z = absurd (omega arith)

-- and a refusal by it, since none has number 0
pub refused_flat : (a : Result Answer Refused) → ((n v : ℕ) → RefusedBy a n v → 1 ≤ n) → ((flat_ask a).answer ≡ 3) ↔ ((flat_ask a).refused ≡ 0 → ⊥)
refused_flat (Ok Normal) h = (λ z. absurd (omega arith), λ z. absurd (z refl))
refused_flat (Ok Panic) h = (λ z. absurd (omega arith), λ z. absurd (z refl))
refused_flat (Ok Lost) h = (λ z. absurd (omega arith), λ z. absurd (z refl))
refused_flat (Err why) h = (λ z e. omega (arith, h (own_number why) (beside why) (why, refl, refl)), λ z. refl)

pub refused_read_lem : (a : Result (Option Bool) Refused) (place : ℕ) → ((n v : ℕ) → RefusedBy a n v → 1 ≤ n) → ((flat_read a place).answer ≡ 3) ↔ ((flat_read a place).refused ≡ 0 → ⊥)
refused_read_lem (Ok (Some false)) place h = (λ z. absurd (omega arith), λ z. absurd (z refl))
refused_read_lem (Ok (Some true)) place h = (λ z. absurd (omega arith), λ z. absurd (z refl))
refused_read_lem (Ok None) place h = (λ z. absurd (omega arith), λ z. absurd (z refl))
refused_read_lem (Err why) place h = (λ z e. omega (arith, h (own_number why) (beside why) (why, refl, refl)), λ z. refl)

-- the verdict by its fields: a job is counted from 1
pub kept_flat : (a : Result (Option Loss) Refused) → ((flat_verdict a).kept ≡ 1) ↔ (a ≡ Ok None)
kept_flat a = (kept a, ap (λ z. (flat_verdict z).kept))
  where
    kept : (a : Result (Option Loss) Refused) → (flat_verdict a).kept ≡ 1 → a ≡ Ok None
    kept (Ok None) z = refl
    kept (Ok (Some l)) z = absurd (omega arith)
    kept (Err why) z = absurd (omega arith)

pub kept_or_not : (a : Result (Option Loss) Refused) → ((flat_verdict a).kept ≡ 0) ⊎ ((flat_verdict a).kept ≡ 1)
kept_or_not (Ok None) = inr refl
kept_or_not (Ok (Some l)) = inl refl
kept_or_not (Err why) = inl refl

pub lost_flat : (a : Result (Option Loss) Refused) (j i : ℕ) (first : ℤ) → 1 ≤ j → (((flat_verdict a).job ≡ j) × ((flat_verdict a).limit ≡ i) × ((flat_verdict a).first ≡ first)) ↔ (a ≡ lost_at j i first)
lost_flat a j i first h = (lost a, λ e. (ap (λ z. (flat_verdict z).job) e, ap (λ z. (flat_verdict z).limit) e, ap (λ z. (flat_verdict z).first) e))
  where
    lost : (a : Result (Option Loss) Refused) → ((flat_verdict a).job ≡ j) × ((flat_verdict a).limit ≡ i) × ((flat_verdict a).first ≡ first) → a ≡ lost_at j i first
    lost (Ok None) z = absurd (omega (arith, z.0))
    lost (Ok (Some l)) (e, f, g) = ap₂ {C = Result (Option Loss) Refused} (λ j i. lost_at j i l.first) e f ∙ ap (lost_at j i) g
    lost (Err why) z = absurd (omega (arith, z.0))
