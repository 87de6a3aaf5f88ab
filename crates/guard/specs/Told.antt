-- A guard told outcomes one after the other. RULES, The guard: "the state of a guard started there is the one to which the outcomes told so far lead".
use Rattle.std.specs.Prelude.{◌≡◌, ◌↔◌, Bool, false, cond, List, [], ◌∷◌, ◌++◌, ℕ, ◌-◌, ltb, take, Result, Ok}
use Rattle.layout.specs.declared.Refused.{Refused}
use Rattle.table.specs.Shared.{outcome, Machine, Can}
use Rattle.guard.specs.declared.Guard.{Guard}
use Rattle.guard.specs.declared.Answer.{Answer}
use Rattle.guard.specs.declared.Answer.TheVariants.{Normal, Panic, Lost}
use Rattle.guard.specs.Guard.{most_told, after, told_of}

-- the guard after outcomes, oldest first
abbrev pub after_all : Machine → Guard → List Bool → Guard
after_all m g [] = g
after_all m g (o ∷ p) = after_all m (after m g o) p

-- the guard after tells of these bytes on table b
abbrev pub told_all : List ℕ → Guard → List ℕ → Guard
told_all b g [] = g
told_all b g (byte ∷ bytes) = told_all b (told_of b g byte) bytes

-- the outcomes among bytes
abbrev pub outcomes_among : List ℕ → List Bool
outcomes_among [] = []
outcomes_among (byte ∷ bytes) = cond (ltb 1 byte) (outcomes_among bytes) (outcome byte ∷ outcomes_among bytes)

-- the outcomes told to a guard that was told so many before: those among the bytes, up to the largest count. RULES, What a refusal leaves: "A refused tell has told nothing."
unfoldable pub heard_after : (count : ℕ) → List ℕ → List Bool
heard_after count bytes = take (most_told - count) (outcomes_among bytes)

-- and to one with nothing told
abbrev pub heard : List ℕ → List Bool
heard bytes = heard_after 0 bytes

-- what an answer says of outcomes p told from state s: RULES, Lost and Panic, said of what can be walked
pub record ByWalk (m : Machine) (s : ℕ) (p : List Bool) (a : Result Answer Refused) : Type 0 where
  pub lost : (a ≡ Ok Lost) ↔ (Can m s p → ⊥)
  pub panic : (a ≡ Ok Panic) ↔ (Can m s p × (Can m s (p ++ false ∷ []) → ⊥))
  pub normal : (a ≡ Ok Normal) ↔ (Can m s p × Can m s (p ++ false ∷ []))
