-- Judging a log says what judging its outcomes as bytes says: four bytes count too few outcomes for 26. Assumes nothing.
use mathlib.Core.Path.{◌≡◌, sym, ap, ◌∙◌, subst}
use mathlib.Core.Bool.{Bool}
use mathlib.Core.List.{List, map}
use Prim.Native.Nat.{ℕ, ◌≤◌, ◌<◌}
use native.Mathlib.Omega.{arith}
use borrow.Author.Tests.{le-ltb}
use lib.ListN.{length, length-map}
use Rattle.layout.specs.Bytes.{byte_at}
use Rattle.layout.specs.Refusal.{passed, first}
use Rattle.layout.proofs.Rows.{and_then, first_append, first_skip}
use Rattle.patterns.specs.Outcome.{bit, outcome_rows}
use Rattle.patterns.proofs.Outcomes.{outcomes_bits, bits_passed}
use Rattle.meaning.specs.Longest.{longest}
use Rattle.sets.specs.Bytes.{set_of}
use Rattle.sets.specs.Rows.{set_rows}
use Rattle.std.specs.Prelude.{Option, Result}
use Rattle.layout.specs.declared.Refused.{Refused}
use Rattle.verdict.specs.declared.Loss.{Loss}
use Rattle.verdict.specs.Judge.{most_jobs, pattern_rows, Verdict, JudgedAs}
use Rattle.verdict.proofs.OneResult.{judged_one_result}
use Rattle.night_log.specs.Bytes.{outcomes_of}
use Rattle.night_log.specs.Rows.{log_rows}
use Rattle.night_log.specs.Judge.{log_judge_rows, LogJudgedAs}
use Rattle.night_log.proofs.Outcomes.{outcomes_length}

-- one byte an outcome
abbrev pub bytes_of : List Bool → List ℕ
bytes_of p = map bit p

-- a log of bytes never holds more outcomes than a pattern that is judged may have
pub log_never_26 : (log : List ℕ) → ((i : ℕ) → byte_at log i < 256) → length (bytes_of (outcomes_of log)) ≤ most_jobs
log_never_26 log bytes = omega (arith, length-map (outcomes_of log) bit, outcomes_length log, bytes 5, bytes 6, bytes 7, bytes 8)

pub log_judged_as_bytes : (set log : List ℕ) → ((i : ℕ) → byte_at log i < 256) → first (log_rows log) ≡ passed
    → (r t : Result (Option Loss) Refused) → LogJudgedAs longest set log r → JudgedAs longest set (bytes_of (outcomes_of log)) t → r ≡ t
log_judged_as_bytes set log bytes e r t a b =
    let p = outcomes_of log in
    let few = first_skip 26 0 _ (outcome_rows (bytes_of p) 0) (le-ltb most_jobs (length (bytes_of p)) (log_never_26 log bytes)) ∙ bits_passed p 0 in
    let rows = first_append (set_rows longest set) (log_rows log) ∙ ap (and_then (first (set_rows longest set))) e in
    let others = first_append (set_rows longest set) (pattern_rows (bytes_of p)) ∙ ap (and_then (first (set_rows longest set))) few in
    judged_one_result (log_judge_rows longest set log) (set_of set) p r t a (record {
      refusal = b.refusal ∙ others ∙ sym rows;
      verdict = subst (λ z. Verdict (set_of set) z t) (outcomes_bits p) b.verdict;
    })
