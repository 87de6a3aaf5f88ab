-- RULES, Kept: "A set keeps the patterns that all of its limits keep, and no others." Kept by a set, lost at a job, panic.
use Rattle.std.specs.Prelude.{Bool, false, List, [], ◌∷◌, ◌++◌, ℕ, ◌≤◌, ◌<◌, get_or, take}
use Rattle.meaning.specs.declared.Limit.{Limit}
use Rattle.meaning.specs.declared.LimitSet.{LimitSet}
use Rattle.meaning.specs.Limit.{Rule, rule_of, Allowed}
use Rattle.meaning.specs.Kept.{Kept}

abbrev pub zero_limit : Limit
zero_limit = record { kind = 0; x = 0; k = 0 }

-- limit i of the set, from 0
abbrev pub limit_at : LimitSet → ℕ → Limit
limit_at s i = get_or s.limits i zero_limit

abbrev pub rule_at : LimitSet → ℕ → Rule
rule_at s i = rule_of (limit_at s i)

-- the set's limits have allowed numbers
pub record SetAllowed (widest : ℕ) (s : LimitSet) : Type 0 where
  pub some_limit : 1 ≤ s.count
  pub eight_places : s.count ≤ 8
  pub each : (i : ℕ) → i < s.count → Allowed widest (limit_at s i)

-- "A set keeps the patterns that all of its limits keep"
abbrev pub KeptBy : LimitSet → List Bool → Type 0
KeptBy s p = (i : ℕ) → i < s.count → Kept (rule_at s i) p

-- RULES, Kept: "A set limits nothing when it keeps every pattern."
abbrev pub LimitsNothing : LimitSet → Type 0
LimitsNothing s = (p : List Bool) → KeptBy s p

-- RULES, Lost: "A pattern that isn't kept is lost at job j. Of its beginnings that aren't kept the shortest has j jobs, so j counts from 1. Beside j stands a limit: among those that don't keep this beginning, the one with the lowest number, from 0."
pub record LostAt (s : LimitSet) (p : List Bool) (j i : ℕ) : Type 0 where
  pub lost : KeptBy s (take j p) → ⊥
  pub shortest : (n : ℕ) → n < j → KeptBy s (take n p)
  pub breaks : Kept (rule_at s i) (take j p) → ⊥
  pub lowest : (n : ℕ) → n < i → Kept (rule_at s n) (take j p)

-- RULES, Panic: "A pattern is in panic when it is kept but would no longer be with a miss after it."
pub record Panic (s : LimitSet) (p : List Bool) : Type 0 where
  pub kept : KeptBy s p
  pub miss_loses : KeptBy s (p ++ false ∷ []) → ⊥
