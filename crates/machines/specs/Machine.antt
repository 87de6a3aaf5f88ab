-- RULES, The table of a set: "A machine has states, one of them its start, and for each state and outcome one next state or none. It walks a pattern if, from the start, every outcome in turn has a next state."
use Rattle.std.specs.Prelude.{◌≡◌, Bool, List, [], ◌∷◌, ℕ, ◌<◌}
use Rattle.std.proofs.Math.Option.{Option, none, some}

-- the states are the numbers below `states`; `next` is none where an outcome isn't possible
pub record Machine : Type 0 where
  pub states : ℕ
  pub start : ℕ
  pub next : ℕ → Bool → Option ℕ

pub record WellMade (m : Machine) : Type 0 where
  pub start_below : m.start < m.states
  pub next_below : (s t : ℕ) (o : Bool) → s < m.states → m.next s o ≡ some t → t < m.states

abbrev pub onward : Option ℕ → (ℕ → Option ℕ) → Option ℕ
onward none f = none
onward (some s) f = f s

-- where the outcomes lead from state s, one after the other
abbrev pub walk : Machine → ℕ → List Bool → Option ℕ
walk m s [] = some s
walk m s (o ∷ p) = onward (m.next s o) (λ t. walk m t p)

-- the pattern can be walked from state s
abbrev pub Can : Machine → ℕ → List Bool → Type 0
Can m s p = (t : ℕ) × (walk m s p ≡ some t)

abbrev pub Walks : Machine → List Bool → Type 0
Walks m p = Can m m.start p
