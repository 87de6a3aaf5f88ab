-- Where two sets part: a history after which one more miss is kept by the first set and not by the second. The history length m is a variable.
use Rattle.std.specs.Prelude.{Option, MatchOption, ◌≡◌, Bool, true, false, List, reverse, ℕ, ◌≤◌, ◌<◌}
use Rattle.meaning.specs.declared.LimitSet.{LimitSet}
use Rattle.meaning.specs.Sets.{KeptBy}
use Rattle.history.specs.History.{newest}
use Rattle.history.specs.MayMiss.{may_miss}

-- the newest n outcomes of a history, oldest first
abbrev pub outcomes_of : ℕ → ℕ → List Bool
outcomes_of n h = reverse (newest n h)

pub record Splits (a b : LimitSet) (m h : ℕ) : Type 0 where
  pub first_may : may_miss a h ≡ true
  pub second_may_not : may_miss b h ≡ false
  pub first_keeps : KeptBy a (outcomes_of m h)

-- r is the lowest history from low on, and below high, that splits the sets; where there is none, none of them does
abbrev pub Scanned : (a b : LimitSet) (m low high : ℕ) → Option ℕ → Type 0
Scanned a b m low high r =
    MatchOption r
    ((h : ℕ) → low ≤ h → h < high → Splits a b m h → ⊥)
    (λ f. (low ≤ f) × (f < high) × Splits a b m f × ((h : ℕ) → low ≤ h → h < f → Splits a b m h → ⊥))
