-- The earliest window that is broken by a miss that can't follow. RULES, Lost: "Of the windows of that limit that then fail, the earliest is said by its first job."
-- Every window that it breaks has the miss in it, so the earliest is the one with the most outcomes before the miss.
use Rattle.std.specs.Prelude.{Bool, true, false, List, ◌∷◌, ◌++◌, reverse, ℕ, suc, ◌-◌, ◌<◌, replicate}
use Rattle.meaning.specs.Limit.{Rule, width}
use Rattle.meaning.specs.Holds.{Holds}
use Rattle.history.specs.History.{newest}

-- the window of k jobs that has the newest n outcomes before a miss, the oldest first, and hits after it
abbrev pub over_miss : (k n h : ℕ) → List Bool
over_miss k n h = reverse (newest n h) ++ (false ∷ replicate (k - suc n) true)

-- n outcomes before the miss lie in the earliest window of the limit that it breaks
pub record Reaches (l : Rule) (h n : ℕ) : Type 0 where
  pub within : n < width l
  pub broken : Holds l (over_miss (width l) n h) → ⊥
  pub farthest : (a : ℕ) → n < a → a < width l → Holds l (over_miss (width l) a h)
