-- RULES, Covers: "Set A covers set B, it demands at least as much, when B keeps every pattern that A keeps."
use Rattle.std.specs.Prelude.{Bool, List}
use Rattle.patterns.specs.Order.{NoLater}
use Rattle.meaning.specs.declared.LimitSet.{LimitSet}
use Rattle.meaning.specs.Sets.{KeptBy}

abbrev pub Covers : LimitSet → LimitSet → Type 0
Covers a b = (p : List Bool) → KeptBy a p → KeptBy b p

-- kept under a and not under b
abbrev pub Between : LimitSet → LimitSet → List Bool → Type 0
Between a b p = KeptBy a p × (KeptBy b p → ⊥)

-- RULES, Covers: "the answer is the first of them in the order of patterns"
pub record FirstBetween (a b : LimitSet) (p : List Bool) : Type 0 where
  pub between : Between a b p
  pub none_earlier : (q : List Bool) → Between a b q → NoLater p q
