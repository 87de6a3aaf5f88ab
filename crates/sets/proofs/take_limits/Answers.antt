-- `sets::take_limits` meets its contract. The invariant: the places are the bytes' first i limits, and zeros. Assumes nothing.
use mathlib.Core.Path.{ap, ◌∙◌}
use native.Mathlib.Omega.{arith}
use lib.ListN.{set}
use Rattle.sets.specs.Bytes.{limit_in}
use Rattle.sets.proofs.Turns.{set_turn}
use Rattle.sets.proofs.take_limits.Goals as goal

pub loop-i-preserved : goal.loop-i-preserved
loop-i-preserved c =
    let b = c.args.bytes.now in
    let i = c.loop-i.i in
    ap (λ z. set z i (limit_in b i)) c.loop-i.invariant ∙ set_turn b i (omega arith)
