-- `history::Latest::has_row`: the row is the run just looked at, or is to be found in what is left. Each turn leaves one run of hits less, so that there are no more turns than runs. Assumes nothing.
use mathlib.Core.Path.{sym, subst}
use native.Mathlib.Omega.{arith}
use Rattle.history.proofs.Turns.{Left, left_first, left_end, left_found, left_more, left_less, misses_fit, run_fits}
use Rattle.history.proofs.Latest.has_row.Goals as goal

pub loop-rest-init : goal.loop-rest-init
loop-rest-init c =
    let s = c.args.self in
    subst (λ r. Left c.args.x s.n s.history r) (sym c.bits-rest.ensures) (left_first c.args.x s.n s.history s.fits)

pub overflow_shr-from_hit : goal.overflow_shr-from_hit
overflow_shr-from_hit c = misses_fit _ _ _ c.loop-rest.rest c.loop-rest.invariant (omega arith)

pub returns-then-x-run : goal.returns-then-x-run
returns-then-x-run c = sym (left_found _ _ _ c.loop-rest.rest c.loop-rest.invariant (omega arith) (omega arith))

pub overflow_shr-rest : goal.overflow_shr-rest
overflow_shr-rest c = run_fits _ _ _ c.loop-rest.rest c.loop-rest.invariant (omega arith)

pub loop-rest-smaller : goal.loop-rest-smaller
loop-rest-smaller c = left_less _ _ _ c.loop-rest.rest c.loop-rest.invariant (omega arith)

pub loop-rest-preserved : goal.loop-rest-preserved
loop-rest-preserved c = left_more _ _ _ c.loop-rest.rest c.loop-rest.invariant (omega arith) (omega arith)

pub returns : goal.returns
returns c = sym (left_end _ _ _ c.loop-rest.rest c.loop-rest.invariant (omega arith))
