-- `sets::test_limits` meets its contract. The invariant: the rows from limit i on decide, and `nothing` says whether the limits before it are idle; past the last limit the row of 21 decides. Assumes nothing.
use mathlib.Core.Path.{sym, ap, ◌∙◌}
use mathlib.Core.Bool.{cond}
use native.Mathlib.Omega.{arith}
use Rattle.std.proofs.lemmas.Result.{err_from_is_err_and}
use Rattle.layout.specs.Refusal.{passed, refused}
use Rattle.layout.proofs.Rows.{refused_before}
use Rattle.sets.proofs.Turns.{limits_refused, limits_passed, idle_turn, tests_end}
use Rattle.sets.proofs.test_limits.Goals as goal

pub returns-in_err-test_limit : goal.returns-in_err-test_limit
returns-in_err-test_limit c =
    let s = c.args in
    let p = err_from_is_err_and c.from_residual.result c.from_residual.ensures.1 in
    rw (p.1, p.2)
    (sym (refused_before _ _ (c.loop-i.invariant.0 ∙ limits_refused s.widest s.set c.loop-i.i s.set.count (omega arith) (sym c.in_err-test_limit.ensures))))

pub loop-i-preserved : goal.loop-i-preserved
loop-i-preserved c =
    let s = c.args in (
      c.loop-i.invariant.0 ∙ limits_passed s.widest s.set c.loop-i.i s.set.count (omega arith) (sym c.in_ok-test_limit.ensures),
      idle_turn s.set c.loop-i.i c.loop-i.nothing _ c.loop-i.invariant.1 c.is_idle-nothing.ensures,
    )

pub returns-then-nothing : goal.returns-then-nothing
returns-then-nothing c =
    let s = c.args in
    sym (tests_end s.set s.widest c.loop-i.i c.loop-i.nothing (omega arith) c.loop-i.invariant.0 c.loop-i.invariant.1 ∙ ap (λ b. cond b (refused 21 0) passed) c.if-nothing.true)

pub returns : goal.returns
returns c =
    let s = c.args in
    sym (tests_end s.set s.widest c.loop-i.i c.loop-i.nothing (omega arith) c.loop-i.invariant.0 c.loop-i.invariant.1 ∙ ap (λ b. cond b (refused 21 0) passed) c.if-nothing.false)
