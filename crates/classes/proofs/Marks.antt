-- The entries before the first round, limit by limit: a mark is left where every limit so far leaves it. Assumes nothing.
use mathlib.Core.Path.{◌≡◌, ap, ◌∙◌}
use mathlib.Core.Bool.{cond}
use mathlib.Core.List.{List}
use Prim.Native.Nat.{ℕ}
use Rattle.meaning.specs.declared.LimitSet.{LimitSet}
use Rattle.meaning.specs.Sets.{rule_at}
use Rattle.meaning.specs.Test.{every}
use Rattle.history.specs.MayMiss.{may_miss_under, may_miss}
use Rattle.classes.specs.Area.{high}
use Rattle.classes.specs.Stage.{Entered, marked, Started}
use Rattle.classes.proofs.Keeping.{within_trans}

-- what the first i limits leave
abbrev pub left_by : LimitSet → (i h : ℕ) → ℕ
left_by s i h = cond (every i (λ j. may_miss_under (rule_at s j) h)) high 0

pub marked_all : (s : LimitSet) (n i : ℕ) (w₀ w w' : List ℕ) → i ≡ s.count → Entered n marked w₀ w → Entered n (left_by s i) w w' → Started s n w₀ w'
unfolding may_miss
marked_all s n i w₀ w w' c e f = record { within = within_trans n w₀ w w' e.within f.within; entries = λ h l. f.entries h l ∙ ap (λ k. left_by s k h) c }
