-- Any two results that a contract allows are equal, and for a row the rows then: an answer is known from what it says, the answer of an ask also from how the guard stands, and the guard and the row are functions of what the rows say. Assumes nothing.
use mathlib.Core.Path.{◌≡◌, refl, sym, subst, ◌∙◌}
use mathlib.Core.Option.{Option, none, some}
use mathlib.Core.Bool.{cond}
use mathlib.Core.List.{List}
use Prim.Native.Nat.{ℕ}
use Rattle.std.specs.Prelude.{⊤, Result, Ok}
use Rattle.layout.specs.declared.Refused.{Refused}
use Rattle.layout.specs.Refused.{says}
use Rattle.layout.proofs.Refusals.{same_answer}
use Rattle.guard.specs.declared.Guard.{Guard}
use Rattle.guard.specs.declared.Answer.{Answer}
use Rattle.guard.specs.declared.Answer.TheVariants.{Normal, Panic, Lost}
use Rattle.guard.specs.Guard.{StartedAs, StandingBy, AskedAs, ToldAs}
use Rattle.guard.specs.Row.{guard_at, RowStartedAs, RowAskedAs, RowToldAs}

-- the answer for a guard and where a miss leads from its state
abbrev on_miss : Option ℕ → Answer
on_miss none = Panic
on_miss (some t) = Normal

abbrev answer_of : Option ℕ → Guard → Answer
answer_of miss g = cond g.lost Lost (on_miss miss)

answer_known : (miss : Option ℕ) (g : Guard) (a : Answer) → StandingBy miss g (Ok a) → a ≡ answer_of miss g
answer_known miss g Normal (kept, (t, moves)) = rw (kept, moves)
answer_known miss g Panic (kept, stays) = rw (kept, stays)
answer_known miss g Lost lost = rw lost

pub same_ask : (miss : Option ℕ) (g : Guard) (a a' : Result Answer Refused) → says a ≡ says a' → StandingBy miss g a → StandingBy miss g a' → a ≡ a'
same_ask miss g a a' e s s' =
    same_answer a a' e (λ x y p q. answer_known miss g x (subst (StandingBy miss g) p s) ∙ sym (answer_known miss g y (subst (StandingBy miss g) q s')))

-- an answer without a value
pub same_done : (a a' : Result ⊤ Refused) → says a ≡ says a' → a ≡ a'
same_done a a' e = same_answer a a' e (λ x y p q. refl)

module _ (b : List ℕ) where
  pub start_one_result : (r r' : Result ⊤ Refused) (g g' : Guard) → StartedAs b r g → StartedAs b r' g' → (r ≡ r') × (g ≡ g')
  start_one_result r r' g g' p q = (same_done r r' (p.refusal ∙ sym q.refusal), p.guard ∙ sym q.guard)

  pub ask_one_result : (g : Guard) (r r' : Result Answer Refused) (h h' : Guard) → AskedAs b g r h → AskedAs b g r' h' → (r ≡ r') × (h ≡ h')
  ask_one_result g r r' h h' p q = (same_ask _ g r r' (p.refusal ∙ sym q.refusal) p.answer q.answer, p.guard ∙ sym q.guard)

  pub tell_one_result : (g : Guard) (byte : ℕ) (r r' : Result ⊤ Refused) (h h' : Guard) → ToldAs b g byte r h → ToldAs b g byte r' h' → (r ≡ r') × (h ≡ h')
  tell_one_result g byte r r' h h' p q = (same_done r r' (p.refusal ∙ sym q.refusal), p.guard ∙ sym q.guard)

module _ (r : List Guard) (job : ℕ) (b : List ℕ) where
  pub row_start_one_result : (a a' : Result ⊤ Refused) (z z' : List Guard) → RowStartedAs r job b a z → RowStartedAs r job b a' z' → (a ≡ a') × (z ≡ z')
  row_start_one_result a a' z z' p q = (same_done a a' (p.refusal ∙ sym q.refusal), p.row ∙ sym q.row)

  pub row_ask_one_result : (a a' : Result Answer Refused) → RowAskedAs r job b a → RowAskedAs r job b a' → a ≡ a'
  row_ask_one_result a a' p q = same_ask _ (guard_at r job) a a' (p.refusal ∙ sym q.refusal) p.answer q.answer

  pub row_tell_one_result : (byte : ℕ) (a a' : Result ⊤ Refused) (z z' : List Guard) → RowToldAs r job b byte a z → RowToldAs r job b byte a' z' → (a ≡ a') × (z ≡ z')
  row_tell_one_result byte a a' z z' p q = (same_done a a' (p.refusal ∙ sym q.refusal), p.row ∙ sym q.row)
