-- `verdict::judge`: each refusal is the first row that holds, and what is left is what `judge_each` ensures. Assumes nothing.
use mathlib.Core.Path.{◌≡◌, sym, ◌∙◌, subst}
use mathlib.Core.List.{List}
use Prim.Native.Nat.{ℕ, ◌≤◌}
use borrow.Author.Tests.{le-ltb}
use lib.ListN.{length, length-map, get_or-map}
use Rattle.std.specs.Prelude.{Ok, Err}
use Rattle.std.proofs.Common.{rules}
use Rattle.std.proofs.lemmas.Result.{err_from_is_err_and}
use Rattle.layout.specs.Bytes.{byte_at}
use Rattle.layout.specs.declared.Refused.{Refused}
use Rattle.layout.specs.Refusal.{first}
use Rattle.layout.specs.Refused.{row_of}
use Rattle.layout.proofs.Rows.{refused_before, passed_before, first_skip}
use Rattle.patterns.specs.Outcome.{outcome, outcomes, outcome_rows}
use Rattle.meaning.specs.Longest.{longest}
use Rattle.sets.specs.Rows.{set_rows}
use Rattle.sets.proofs.Reading.{refused_rows, accepted_rows, accepted_set, accepted_set_allowed}
use Rattle.verdict.specs.Judge.{Verdict, most_jobs, pattern_rows, judge_rows, JudgedAs}
use Rattle.verdict.proofs.judge.Goals.{In_ok-set}
use Rattle.verdict.proofs.judge.Goals as goal

module _ (set pattern : List ℕ) where
  refused_by : (e : Refused) → first (set_rows longest set) ≡ row_of e → JudgedAs longest set pattern (Err e)
  refused_by e q = record { refusal = sym (refused_before (set_rows longest set) (pattern_rows pattern) q); verdict = tt }

-- past the set's tests
set_passed : (c : In_ok-set) → first (judge_rows longest c.args.set.now c.args.pattern.now) ≡ first (pattern_rows c.args.pattern.now)
set_passed c =
    let set = c.args.set.now in
    passed_before (set_rows longest set) (pattern_rows c.args.pattern.now) (accepted_rows longest set c.read_set.result c.read_set.ensures c.in_ok-set.set c.in_ok-set.was)

-- past 26 too
short_passed : (set pattern : List ℕ) → first (judge_rows longest set pattern) ≡ first (pattern_rows pattern) → length pattern ≤ most_jobs
    → first (judge_rows longest set pattern) ≡ first (outcome_rows pattern 0)
short_passed set pattern e h = e ∙ first_skip 26 0 _ (outcome_rows pattern 0) (le-ltb _ _ h)

pub returns-in_err-set : goal.returns-in_err-set
returns-in_err-set c =
    let p = err_from_is_err_and c.from_residual.result c.from_residual.ensures.1 in
    rw (p.1, p.2) (refused_by c.args.set.now c.args.pattern.now _ (refused_rows longest c.args.set.now c.read_set.result c.read_set.ensures _ c.in_err-set.was))

pub returns-in-Some : goal.returns-in-Some
returns-in-Some c = record {
  refusal = sym (short_passed c.args.set.now c.args.pattern.now (set_passed (goal.at.returns-in-Some c).In_ok-set) c.if-pattern-gt-MOST_JOBS.false ∙ c.in-Some.ensures.tested);
  verdict = tt;
}

pub judge_each-requires-clause-allowed : goal.judge_each-requires-clause-allowed
judge_each-requires-clause-allowed c = accepted_set_allowed longest c.args.set.now c.read_set.result c.read_set.ensures c.in_ok-set.set c.in_ok-set.was

pub returns : goal.returns
returns c =
    let set = c.args.set.now in
    let pattern = c.args.pattern.now in
    record {
      refusal = sym (short_passed set pattern (set_passed (goal.at.returns c).In_ok-set) c.if-pattern-gt-MOST_JOBS.false ∙ c.in_default.ensures.tested);
      verdict =
          subst (λ z. Verdict z (outcomes pattern) (Ok c.judge_each.result)) (accepted_set longest set c.read_set.result c.read_set.ensures c.in_ok-set.set c.in_ok-set.was)
          (c.judge_each.ensures (outcomes pattern) (length-map pattern outcome) (λ i hit l given. let e : hit ≡ outcome (byte_at pattern i) = search rules in get_or-map outcome pattern i 0 ∙ sym e));
    }
