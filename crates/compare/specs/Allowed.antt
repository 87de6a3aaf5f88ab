-- That a set's limits have allowed numbers holds in one way: what a struct asks of a fact that it keeps.
use Rattle.std.specs.Prelude.{ℕ}
use mathlib.Core.HLevel.{×₃_prop}
use Rattle.std.specs.Coded.{×_prop, Π_prop, le_prop, Coded-set, coded_ℕ}
use Rattle.meaning.specs.declared.Limit.{Limit}
use Rattle.meaning.specs.declared.LimitSet.{LimitSet}
use Rattle.meaning.specs.Limit.{Rule, any_hit, row_hit, any_miss, row_miss, rule_of, RuleAllowed, Allowed}
use Rattle.meaning.specs.Sets.{SetAllowed, limit_at}

rule_allowed_prop : (widest : ℕ) (l : Rule) → IsProp (RuleAllowed widest l)
rule_allowed_prop widest (any_hit x k) = ×₃_prop le_prop le_prop le_prop
rule_allowed_prop widest (row_hit x k) = ×₃_prop le_prop le_prop le_prop
rule_allowed_prop widest (any_miss x k) = ×₃_prop le_prop le_prop le_prop
rule_allowed_prop widest (row_miss x) = ×_prop le_prop le_prop

allowed_prop : (widest : ℕ) (l : Limit) → IsProp (Allowed widest l)
allowed_prop widest l x y =
    λ i. record {
      kind_known = le_prop x.kind_known y.kind_known i;
      rule_allowed = rule_allowed_prop widest (rule_of l) x.rule_allowed y.rule_allowed i;
      k_unused = Π_prop (λ _. Coded-set coded_ℕ l.k 0) x.k_unused y.k_unused i;
    }

pub set_allowed_prop : (widest : ℕ) (s : LimitSet) → IsProp (SetAllowed widest s)
set_allowed_prop widest s x y =
    λ i. record {
      some_limit = le_prop x.some_limit y.some_limit i;
      eight_places = le_prop x.eight_places y.eight_places i;
      each = Π_prop (λ n. Π_prop (λ _. allowed_prop widest (limit_at s n))) x.each y.each i;
    }
