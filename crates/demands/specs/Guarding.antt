-- RULES, The guard: "It answers panic exactly where these outcomes are in panic, and lost exactly where they aren't kept." What demand 2 says of a guard's answer after outcomes p, by the meaning of kept alone. The same of the flat field `answer` alone, which is 3 on a refusal.
use Rattle.std.specs.Prelude.{◌≡◌, ◌↔◌, Bool, false, List, [], ◌∷◌, ◌++◌, ℕ, Result, Ok}
use Rattle.meaning.specs.declared.LimitSet.{LimitSet}
use Rattle.meaning.specs.Sets.{KeptBy, Panic}
use Rattle.layout.specs.declared.Refused.{Refused}
use Rattle.guard.specs.declared.Answer.{Answer}
use Rattle.guard.specs.declared.Answer.TheVariants.{Normal, Panic as IsPanic, Lost}

pub record ByKept (s : LimitSet) (p : List Bool) (a : Result Answer Refused) : Type 0 where
  pub normal : (a ≡ Ok Normal) ↔ (KeptBy s p × KeptBy s (p ++ false ∷ []))
  pub panic : (a ≡ Ok IsPanic) ↔ Panic s p
  pub lost : (a ≡ Ok Lost) ↔ (KeptBy s p → ⊥)

pub record ByKeptFlat (s : LimitSet) (p : List Bool) (answer : ℕ) : Type 0 where
  pub normal : (answer ≡ 0) ↔ (KeptBy s p × KeptBy s (p ++ false ∷ []))
  pub panic : (answer ≡ 1) ↔ Panic s p
  pub lost : (answer ≡ 2) ↔ (KeptBy s p → ⊥)
