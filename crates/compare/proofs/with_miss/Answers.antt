-- `compare::with_miss`: the outcomes not yet written are those left in the history. Assumes nothing.
use mathlib.Core.Path.{◌≡◌, subst}
use Prim.Native.Nat.{◌-◌, suc}
use native.Mathlib.Omega.{arith}
use Rattle.compare.proofs.Packing.{Filled, filled_start, filled_turn, filled_end}
use Rattle.compare.proofs.with_miss.Goals as goal

pub loop-i-init : goal.loop-i-init
loop-i-init c = filled_start c.args.history c.args.n (omega arith)

pub loop-i-preserved : goal.loop-i-preserved
loop-i-preserved c =
    let a = c.args in
    let l = c.loop-i in
    let e : l.i ≡ suc (l.i - 1) = omega arith in
    filled_turn a.history a.n l.outcomes l.rest (l.i - 1) (subst (λ z. Filled a.history a.n l.outcomes l.rest z) e l.invariant)

pub returns : goal.returns
returns c =
    let a = c.args in
    let l = c.loop-i in
    let e : l.i ≡ 0 = omega arith in
    filled_end a.history a.n l.outcomes l.rest c.requires (subst (λ z. Filled a.history a.n l.outcomes l.rest z) e l.invariant)
