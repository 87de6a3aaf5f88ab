-- Whether a miss may follow. RULES, Easy ways to go wrong: "What counts is whether hits after the miss can still mend it."
-- A question of the newest outcomes alone, and never of the pattern before them.
use Rattle.std.specs.Prelude.{◌≡◌, Bool, true, false, ℕ, ◌-◌, ◌≤◌, ◌<◌, leb, Option, Some, None}
use Rattle.meaning.specs.declared.LimitSet.{LimitSet}
use Rattle.meaning.specs.Limit.{Rule, any_hit, row_hit, any_miss, row_miss}
use Rattle.meaning.specs.Holds.{hits}
use Rattle.meaning.specs.Sets.{rule_at}
use Rattle.meaning.specs.Test.{every, has_run}
use Rattle.history.specs.History.{newest}

-- under one limit: enough hits among the outcomes that share a window with the miss and end just before it, or a run of hits that stands before it in every window that later hits can't repair
abbrev pub may_miss_under : Rule → ℕ → Bool
may_miss_under (any_hit x k) h = leb x (hits (newest (k - 1) h))
may_miss_under (row_hit x k) h = has_run x (newest (k - x) h)
may_miss_under (any_miss x k) h = leb (k - x) (hits (newest (k - 1) h))
may_miss_under (row_miss x) h = leb 1 (hits (newest (x - 1) h))

-- under every limit of a set
unfoldable pub may_miss : LimitSet → ℕ → Bool
may_miss s h = every s.count (λ i. may_miss_under (rule_at s i) h)

-- i is the lowest-numbered limit under which a miss can't follow, or the count of limits
pub record Blocks (s : LimitSet) (h i : ℕ) : Type 0 where
  pub within : i ≤ s.count
  pub before : (j : ℕ) → j < i → may_miss_under (rule_at s j) h ≡ true
  pub here : i < s.count → may_miss_under (rule_at s i) h ≡ false

-- the lowest-numbered limit under which a miss can't follow, where there is one
abbrev pub BlockedBy : LimitSet → (h : ℕ) → Option ℕ → Type 0
BlockedBy s h (Some i) = Blocks s h i × (i < s.count)
BlockedBy s h None = Blocks s h s.count
