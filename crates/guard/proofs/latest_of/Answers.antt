-- `latest_of`: a copy of the outcomes in which each takes the place before it, and the new one follows. Assumes nothing.
use native.Mathlib.Omega.{arith}
use Rattle.guard.proofs.Latest.{followed_one, followed_all}
use Rattle.guard.proofs.latest_of.Goals as goal

pub loop-i-preserved : goal.loop-i-preserved
loop-i-preserved c =
    let l = c.loop-i in
    let a = c.args in
    followed_one a.outcomes a.hit l.after l.i (omega (arith, c.well_formed.0)) l.invariant

pub returns : goal.returns
returns c =
    let l = c.loop-i in
    let a = c.args in
    followed_all a.outcomes a.hit l.after l.i (omega (arith, c.well_formed.0)) l.invariant
