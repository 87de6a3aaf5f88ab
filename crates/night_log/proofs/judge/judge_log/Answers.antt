-- `night_log::judge::judge_log` meets its contract: each refusal is the first row that holds, and what is left is what `judge_each` ensures. Assumes nothing.
use mathlib.Core.Path.{◌≡◌, sym, ◌∙◌, subst}
use mathlib.Core.List.{List}
use Prim.Native.Nat.{ℕ, ◌+◌, ◌/◌, ◌<◌}
use native.Mathlib.Omega.{arith}
use lib.ListN.{length}
use Rattle.std.specs.Prelude.{Ok, Err}
use Rattle.std.proofs.Common.{rules}
use Rattle.std.proofs.lemmas.Result.{err_from_is_err_and}
use Rattle.layout.specs.declared.Refused.{Refused}
use Rattle.layout.specs.Refusal.{first}
use Rattle.layout.specs.Refused.{row_of}
use Rattle.layout.proofs.Rows.{refused_before, passed_before}
use Rattle.meaning.specs.Longest.{longest}
use Rattle.sets.specs.Rows.{set_rows}
use Rattle.sets.proofs.Reading.{refused_rows, accepted_rows, accepted_set, accepted_set_allowed}
use Rattle.verdict.specs.Judge.{Verdict}
use Rattle.night_log.specs.Bytes.{outcome_in, outcomes_of}
use Rattle.night_log.specs.Rows.{log_rows}
use Rattle.night_log.specs.Judge.{log_judge_rows, LogJudgedAs}
use Rattle.night_log.proofs.Accepted.{accepted_log}
use Rattle.night_log.proofs.Outcomes.{outcomes_length, outcomes_at}
use Rattle.night_log.proofs.judge.judge_log.Goals.{In_ok-set}
use Rattle.night_log.proofs.judge.judge_log.Goals as goal

module _ (set log : List ℕ) where
  refused_by : (e : Refused) → row_of e ≡ first (log_judge_rows longest set log) → LogJudgedAs longest set log (Err e)
  refused_by e q = record { refusal = q; verdict = tt }

-- past the set's tests
set_passed : (c : In_ok-set) → first (log_judge_rows longest c.args.set.now c.args.log.now) ≡ first (log_rows c.args.log.now)
set_passed c =
    let set = c.args.set.now in
    passed_before (set_rows longest set) (log_rows c.args.log.now) (accepted_rows longest set c.read_set.result c.read_set.ensures c.in_ok-set.set c.in_ok-set.was)

pub returns-in_err-set : goal.returns-in_err-set
returns-in_err-set c =
    let set = c.args.set.now in
    let log = c.args.log.now in
    let p = err_from_is_err_and c.from_residual.result c.from_residual.ensures.1 in
    rw (p.1, p.2) (refused_by set log _ (sym (refused_before (set_rows longest set) (log_rows log) (refused_rows longest set c.read_set.result c.read_set.ensures _ c.in_err-set.was))))

pub returns-in_err-count : goal.returns-in_err-count
returns-in_err-count c =
    let p = err_from_is_err_and c.from_residual-in_err-count.result c.from_residual-in_err-count.ensures.1 in
    rw (p.1, p.2) (refused_by c.args.set.now c.args.log.now _ (c.in_err-count.ensures.refusal ∙ sym (set_passed (goal.at.returns-in_err-count c).In_ok-set)))

pub judge_each-requires-clause-allowed : goal.judge_each-requires-clause-allowed
judge_each-requires-clause-allowed c = accepted_set_allowed longest c.args.set.now c.read_set.result c.read_set.ensures c.in_ok-set.set c.in_ok-set.was

pub judge_each-requires-clause-can : goal.judge_each-requires-clause-can
judge_each-requires-clause-can c =
    λ i h.
    let log = accepted_log c.args.log.now (sym c.in_ok-count.ensures.refusal) in
    let inside : 9 + i / 8 < length c.args.log.now = omega (arith, log.size, c.in_ok-count.ensures.count) in
    let few : i < 4294967296 = omega (arith, c.in_ok-count.ensures.count) in
    search rules

pub returns : goal.returns
returns c =
    let set = c.args.set.now in
    let log = c.args.log.now in
    record {
      refusal = c.in_ok-count.ensures.refusal ∙ sym (set_passed (goal.at.returns c).In_ok-set);
      verdict =
          subst (λ z. Verdict z (outcomes_of log) (Ok c.judge_each.result)) (accepted_set longest set c.read_set.result c.read_set.ensures c.in_ok-set.set c.in_ok-set.was)
          (c.judge_each.ensures (outcomes_of log) (outcomes_length log ∙ sym c.in_ok-count.ensures.count.0) (λ i hit l given.
          let e : hit ≡ outcome_in log i = search rules in
          outcomes_at log i (omega (arith, outcomes_length log, c.in_ok-count.ensures.count)) ∙ sym e));
    }
