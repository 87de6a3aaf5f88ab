-- RULES, Lost: "Let hits without end come before this beginning and after it. Of the windows of that limit that then fail, the earliest is said by its first job. The pattern begins with job 1".
use Rattle.std.specs.Prelude.{◌≡◌, Bool, List, ℕ, take, ℤ, pos, ◌+ℤ◌, ◌<ℤ◌}
use Rattle.meaning.specs.declared.LimitSet.{LimitSet}
use Rattle.meaning.specs.Limit.{Rule, width}
use Rattle.meaning.specs.Window.{around, window}
use Rattle.meaning.specs.Holds.{Holds}
use Rattle.meaning.specs.Sets.{LostAt, rule_at}

-- the limit's window from place i on fails, and none that begins earlier does
pub record EarliestBroken (l : Rule) (p : List Bool) (i : ℤ) : Type 0 where
  pub broken : Holds l (window (around p) i (width l)) → ⊥
  pub none_earlier : (a : ℤ) → a <ℤ i → Holds l (window (around p) a (width l))

-- the job at a place: the pattern's first outcome, at place 0, is that of job 1
abbrev pub job_at : ℤ → ℤ
job_at i = i +ℤ pos 1

abbrev pub BrokenFrom : Rule → List Bool → (first : ℤ) → Type 0
BrokenFrom l p first = (i : ℤ) × EarliestBroken l p i × (first ≡ job_at i)

-- lost at job j by limit i, whose earliest broken window begins with job first
abbrev pub LostFrom : LimitSet → List Bool → (j i : ℕ) → (first : ℤ) → Type 0
LostFrom s p j i first = LostAt s p j i × BrokenFrom (rule_at s i) (take j p) first
