-- RULES, Lost, and What each entry tests, verdict: "as reading a set; then 26; then 13 over all outcomes of the pattern, those after the job at which it is lost too", and else "kept, or lost with j, the limit and the first job of the window".
use Rattle.std.specs.Prelude.{◌≡◌, Bool, List, ◌∷◌, ◌++◌, ℕ, ltb, length, Option, Some, None, Result, Ok, Err}
use Rattle.layout.specs.declared.Refused.{Refused}
use Rattle.layout.specs.Refusal.{Row, row, first}
use Rattle.layout.specs.Refused.{says}
use Rattle.patterns.specs.Outcome.{outcomes, outcome_rows}
use Rattle.meaning.specs.declared.LimitSet.{LimitSet}
use Rattle.meaning.specs.Sets.{KeptBy}
use Rattle.meaning.specs.Broken.{LostFrom}
use Rattle.sets.specs.Bytes.{set_of}
use Rattle.sets.specs.Rows.{set_rows}
use Rattle.verdict.specs.declared.Loss.{Loss}

-- what an answer that isn't a refusal says of the pattern
abbrev pub Verdict : LimitSet → List Bool → Result (Option Loss) Refused → Type 0
Verdict s p (Ok None) = KeptBy s p
Verdict s p (Ok (Some l)) = LostFrom s p l.job l.limit l.first
Verdict s p (Err e) = Unit {0}

-- a verdict on outcomes, by the rows that are tested before it
pub record JudgedBy (rows : List Row) (s : LimitSet) (p : List Bool) (r : Result (Option Loss) Refused) : Type 0 where
  pub refusal : says r ≡ first rows
  pub verdict : Verdict s p r

-- the most jobs that a pattern may have: the largest number of 63 bits
abbrev pub most_jobs : ℕ
most_jobs = 9223372036854775807

-- "a pattern that is to be judged has more than 9,223,372,036,854,775,807 outcomes"; then 13
abbrev pub pattern_rows : List ℕ → List Row
pattern_rows pattern = row 26 (ltb most_jobs (length pattern)) 0 ∷ outcome_rows pattern 0

abbrev pub judge_rows : (widest : ℕ) → (set pattern : List ℕ) → List Row
judge_rows widest set pattern = set_rows widest set ++ pattern_rows pattern

abbrev pub JudgedAs : (widest : ℕ) → (set pattern : List ℕ) → Result (Option Loss) Refused → Type 0
JudgedAs widest set pattern = JudgedBy (judge_rows widest set pattern) (set_of set) (outcomes pattern)
