-- RULES, What each entry tests, judging a log: "as reading a set; then 15, 16", and else "what the verdict on the outcomes that the log holds is".
use Rattle.std.specs.Prelude.{List, ◌++◌, ℕ, Option, Result}
use Rattle.layout.specs.declared.Refused.{Refused}
use Rattle.layout.specs.Refusal.{Row}
use Rattle.sets.specs.Bytes.{set_of}
use Rattle.sets.specs.Rows.{set_rows}
use Rattle.verdict.specs.declared.Loss.{Loss}
use Rattle.verdict.specs.Judge.{JudgedBy}
use Rattle.night_log.specs.Bytes.{outcomes_of}
use Rattle.night_log.specs.Rows.{log_rows}

abbrev pub log_judge_rows : (widest : ℕ) → (set log : List ℕ) → List Row
log_judge_rows widest set log = set_rows widest set ++ log_rows log

abbrev pub LogJudgedAs : (widest : ℕ) → (set log : List ℕ) → Result (Option Loss) Refused → Type 0
LogJudgedAs widest set log = JudgedBy (log_judge_rows widest set log) (set_of set) (outcomes_of log)
