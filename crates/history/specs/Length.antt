-- How long a history has to be for a set, and how many histories of a length there are. RULES, Outcomes and patterns: "a mask drops what is older than the history is long".
use Rattle.std.specs.Prelude.{◌≡◌, ℕ, suc, ◌-◌, ◌^◌, ◌≤◌, ◌<◌}
use Rattle.meaning.specs.declared.LimitSet.{LimitSet}
use Rattle.meaning.specs.Longest.{longest}
use Rattle.meaning.specs.Sets.{SetAllowed}

-- histories of m outcomes are long enough for every limit of the set, and shorter than every window that it is allowed under
pub record LongEnough (s : LimitSet) (m : ℕ) : Type 0 where
  pub short : (widest : ℕ) → SetAllowed widest s → m < widest
  pub enough : SetAllowed (suc m) s

pub record Histories (m n : ℕ) : Type 0 where
  pub power : n ≡ 2 ^ m
  pub some_history : 1 ≤ n
  pub fits : n ≤ 2 ^ (longest - 1)
