-- `numbering::number`: before row i the entries at earlier places are read, and after the last row all are. Assumes nothing.
use mathlib.Core.Path.{◌≡◌, sym, subst}
use mathlib.Core.Bool.{true, false}
use Prim.Native.Nat.{◌+◌}
use native.Mathlib.Omega.{arith}
use borrow.Author.Rules.{rules}
use Rattle.machines.specs.Numbering.{place}
use Rattle.numbering.specs.Work.{Kept}
use Rattle.numbering.specs.Rows.{Numbering}
use Rattle.numbering.specs.Stores.{Stores}
use Rattle.numbering.proofs.Keeping.{kept_trans}
use Rattle.numbering.proofs.Storing.{stores_then}
use Rattle.numbering.proofs.Classes.{classed_ready}
use Rattle.numbering.proofs.Promise.{numbered_told}
use Rattle.numbering.proofs.number.Goals as goal

pub visit_start-requires : goal.visit_start-requires
visit_start-requires c =
    let of = c.of-numbers.ensures in
    (rw (of.histories.0, of.unchanged) (classed_ready c.args.n c.args.work.now c.requires.2), of.histories.1)

pub follow-requires-in-loop-i : goal.follow-requires-in-loop-i
follow-requires-in-loop-i c =
    let i = c.loop-i.i in
    let F = c.follow.ensures in
    let b = c.follow.new.self in
    let e : place i false + 1 ≡ place i true = omega arith in (
      omega (arith, F.stored.grows, c.loop-i-test.true),
      subst (λ n. Numbering n b.work.now b.count (place i true)) (sym F.histories) (subst (Numbering _ _ _) e F.stored.numbering),
    )

pub loop-i-preserved : goal.loop-i-preserved
loop-i-preserved c =
    let i = c.loop-i.i in
    let e : place i true + 1 ≡ place (i + 1) false = omega arith in
    let row : Stores (λ n w w' count r. Numbering n w' r (place (i + 1) false) × Kept n w w') c.loop-i.numbers c.follow-in-loop-i.new.self =
    stores_then (λ F G. (subst (Numbering _ _ _) e G.numbering, kept_trans F.kept G.kept)) c.follow.ensures c.follow-in-loop-i.ensures in (
      omega (arith, c.follow-in-loop-i.ensures.stored.grows, c.follow.ensures.stored.grows, c.loop-i-test.true),
      stores_then (λ (_, K) (M, L). (M, kept_trans K L)) c.loop-i.invariant.1 row,
    )

pub returns : goal.returns
returns c =
    let of = c.of-numbers in
    numbered_told c.args.n c.args.work.now _ of.result c.visit_start.new.self c.loop-i.numbers (place c.loop-i.i false)
    of.ensures.histories.0 of.ensures.unchanged c.visit_start.ensures c.loop-i.invariant.1 (omega (arith, c.loop-i.invariant.0, c.loop-i-test.false)) (search rules)
