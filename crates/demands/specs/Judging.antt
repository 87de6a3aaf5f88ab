-- RULES, Kept: "A set keeps the patterns that all of its limits keep, and no others." The same of the bytes of a set and of a pattern, that the set is accepted, the outcomes are 0 and 1 and not too many, and the set keeps them; and of the bytes of a set and of a night log.
use Rattle.std.specs.Prelude.{◌≡◌, List, ℕ, ℤ, ◌≤◌, length, Option, Some, Result, Ok}
use Rattle.layout.specs.declared.Refused.{Refused}
use Rattle.layout.specs.Refusal.{passed, first}
use Rattle.patterns.specs.Outcome.{outcomes, AllOutcomes}
use Rattle.meaning.specs.Longest.{longest}
use Rattle.meaning.specs.Sets.{KeptBy}
use Rattle.sets.specs.Bytes.{set_of}
use Rattle.sets.specs.Rows.{set_rows}
use Rattle.verdict.specs.declared.Loss.{Loss}
use Rattle.verdict.specs.Judge.{most_jobs}
use Rattle.night_log.specs.Bytes.{outcomes_of}
use Rattle.night_log.specs.Rows.{log_rows}

-- the answer that a pattern is lost at job j by limit i, whose window begins with job `from`
abbrev pub lost_at : (j i : ℕ) (from : ℤ) → Result (Option Loss) Refused
lost_at j i from = Ok (Some (record { job = j; limit = i; first = from }))

pub record Keeps (set pattern : List ℕ) : Type 0 where
  pub accepted : first (set_rows longest set) ≡ passed
  pub not_too_long : length pattern ≤ most_jobs
  pub outcomes_are_0_and_1 : AllOutcomes pattern
  pub kept : KeptBy (set_of set) (outcomes pattern)

pub record KeepsLog (set log : List ℕ) : Type 0 where
  pub accepted : first (set_rows longest set) ≡ passed
  pub is_log : first (log_rows log) ≡ passed
  pub kept : KeptBy (set_of set) (outcomes_of log)
