-- The first region holds, for each history, whether a miss may follow, and the least history that can't be told apart from it.
use Rattle.std.specs.Prelude.{◌≡◌, List, ℕ, ◌^◌, ◌≤◌, ◌<◌}
use Rattle.machines.specs.Same.{Same}
use Rattle.meaning.specs.declared.LimitSet.{LimitSet}
use Rattle.history.specs.MayMiss.{may_miss}
use Rattle.history.specs.Machine.{history_machine}
use Rattle.classes.specs.Area.{class_at, may_at}

pub record Classed (s : LimitSet) (m : ℕ) (w : List ℕ) : Type 0 where
  pub may : (h : ℕ) → h < 2 ^ m → may_at w h ≡ may_miss s h
  pub no_greater : (h : ℕ) → h < 2 ^ m → class_at w h ≤ h
  pub same : (h : ℕ) → h < 2 ^ m → Same (history_machine s m) (class_at w h) h
  pub least : (g h : ℕ) → g < 2 ^ m → h < 2 ^ m → Same (history_machine s m) g h → class_at w h ≤ g
