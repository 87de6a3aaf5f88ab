-- `classes::Area::round`: the histories below h are placed, and at the end all are. Assumes nothing.
use mathlib.Core.Path.{◌≡◌, subst}
use native.Mathlib.Omega.{arith}
use Rattle.classes.specs.Chain.{Grouped}
use Rattle.classes.proofs.Keeping.{kept_trans}
use Rattle.classes.proofs.Storing.{stores_then}
use Rattle.classes.proofs.Placing.{rounded}
use Rattle.classes.proofs.Area.round.Goals as goal

pub returns : goal.returns
returns c =
    let a = c.args.self.now in
    let w = a.work.now in
    let w₁ = c.clear_heads.new.self.work.now in
    let w₂ = c.loop-h.self.work.now in
    let e : c.loop-h.h ≡ a.n = omega (arith, c.clear_heads.ensures.histories) in
    stores_then (λ (_, K) (P, L). rounded a.n w w₂ a.some_history (kept_trans a.n w w₁ w₂ K L) (subst (λ z. Grouped w₂ a.n z) e P.grouped))
    c.clear_heads.ensures c.loop-h.invariant
