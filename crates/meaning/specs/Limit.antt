-- RULES, Limits: the table of kinds.
use Rattle.std.specs.Prelude.{◌≡◌, ℕ, zero, suc, ◌≤◌}
use Rattle.meaning.specs.declared.Limit.{Limit}

pub data Rule : Type 0 where
  any_hit row_hit any_miss : (x k : ℕ) → Rule
  row_miss : (x : ℕ) → Rule

-- the column "kind byte" (a kind above 3 is refused, and never comes here)
abbrev pub rule_from : (kind x k : ℕ) → Rule
rule_from zero x k = any_hit x k
rule_from (suc zero) x k = row_hit x k
rule_from (suc (suc zero)) x k = any_miss x k
rule_from (suc (suc (suc kind))) x k = row_miss x

abbrev pub rule_of : Limit → Rule
rule_of l = rule_from l.kind l.x l.k

-- the column "window": how many jobs a window has
abbrev pub width : Rule → ℕ
width (any_hit x k) = k
width (row_hit x k) = k
width (any_miss x k) = k
width (row_miss x) = x

-- the column "allowed numbers", with the widest window for its 12
abbrev pub RuleAllowed : (widest : ℕ) → Rule → Type 0
RuleAllowed widest (any_hit x k) = (1 ≤ k) × (k ≤ widest) × (x ≤ k)
RuleAllowed widest (row_hit x k) = (1 ≤ k) × (k ≤ widest) × (x ≤ k)
RuleAllowed widest (any_miss x k) = (1 ≤ k) × (k ≤ widest) × (x ≤ k)
RuleAllowed widest (row_miss x) = (1 ≤ x) × (x ≤ widest)

pub record Allowed (widest : ℕ) (l : Limit) : Type 0 where
  pub kind_known : l.kind ≤ 3
  pub rule_allowed : RuleAllowed widest (rule_of l)
  pub k_unused : l.kind ≡ 3 → l.k ≡ 0
