-- `sets::write::put_limits` meets its contract. The invariant: past byte 6 stand the first i limits, and then what stood there. Assumes nothing.
use mathlib.Core.Path.{refl, ◌∙◌}
use native.Mathlib.Omega.{arith}
use Rattle.sets.proofs.Turns.{write_none, write_turn}
use Rattle.sets.proofs.write.put_limits.Goals as goal

pub loop-i-init : goal.loop-i-init
loop-i-init c = let s = c.args in (refl, write_none s.set s.out.now)

pub loop-i-preserved : goal.loop-i-preserved
loop-i-preserved c =
    let p = c.put_limit in
    let s = c.args in
    (p.auto.out ∙ c.loop-i.invariant.0, write_turn s.set s.out.now c.loop-i.out p.new.out c.loop-i.i (omega arith) c.loop-i.invariant.1 p.ensures)
