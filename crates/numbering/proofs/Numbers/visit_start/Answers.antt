-- `numbering::Numbers::visit_start`: with no number given yet, the class of the last history gets number 0. Assumes nothing.
use mathlib.Core.Path.{sym, ◌∙◌, subst}
use Prim.Native.Nat.{◌-◌}
use native.Mathlib.Omega.{arith}
use Rattle.classes.specs.Area.{class_at}
use Rattle.numbering.specs.Work.{Ready}
use Rattle.numbering.specs.Rows.{Visited}
use Rattle.numbering.proofs.Keeping.{ready_kept}
use Rattle.numbering.proofs.Storing.{stores_then}
use Rattle.numbering.proofs.Start.{ordered_none, read_start}
use Rattle.numbering.proofs.Numbers.visit_start.Goals as goal

pub visit-requires : goal.visit-requires
visit-requires c =
    let a = c.args.self.now in
    let C = c.clear.ensures in
    let w₁ = c.clear.new.self.work.now in (
      omega (arith, C.histories, a.some_history),
      subst (λ n. Ready n w₁) (sym C.histories) (ready_kept a.n a.work.now w₁ C.stored.0.kept c.requires.0),
      rw (C.histories, C.stored.1 ∙ c.requires.1) (ordered_none a.n w₁ C.stored.0.cleared),
    )

pub returns : goal.returns
returns c =
    let a = c.args.self.now in
    let w₁ = c.clear.new.self.work.now in
    let w₂ = c.visit.new.self.work.now in
    let r = c.visit.new.self.count in
    stores_then (λ (K, e) V. read_start a.n a.work.now w₁ w₂ r a.some_history c.requires.0 K
    (subst (λ z. Visited a.n w₁ w₂ (class_at w₁ (z - 1)) 0 r) c.clear.ensures.histories
    (subst (λ z. Visited a.n w₁ w₂ (class_at w₁ (c.clear.new.self.n - 1)) z r) (e ∙ c.requires.1) V)))
    c.clear.ensures c.visit.ensures
