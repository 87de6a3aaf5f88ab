-- `classes::classes`: after i rounds, the one that is read off the marks among them, the classes are those of i jobs, whatever the set, so the invariant names none. It ends after m of them, or where one changed nothing. Assumes nothing.
use native.Mathlib.Omega.{arith}
use borrow.Author.Rules.{rules}
use Rattle.classes.proofs.Result.{further_more, classed_all, classed_settled}
use Rattle.classes.proofs.classes.Goals as goal

pub returns-then-not-refine : goal.returns-then-not-refine
returns-then-not-refine c =
    let of = c.of-area in
    classed_settled c.args.set c.args.m c.loop-i.i of.result c.start.new.self c.part.new.self c.loop-i.area c.args.n c.args.work.now _
    c.requires.0 of.ensures.histories of.ensures.unchanged c.start.ensures c.part.ensures c.loop-i.invariant c.refine.new.self c.if-not-refine.ensures (search rules)

pub loop-i-preserved : goal.loop-i-preserved
loop-i-preserved c =
    further_more c.args.m c.loop-i.i c.part.new.self c.loop-i.area c.refine.new.self
    (omega (arith, c.requires.0, c.of-area.ensures.histories, c.start.ensures.histories, c.part.ensures.histories)) c.loop-i.invariant c.if-not-refine.ensures

pub returns : goal.returns
returns c =
    let of = c.of-area in
    classed_all c.args.set c.args.m c.loop-i.i of.result c.start.new.self c.part.new.self c.loop-i.area c.args.n c.args.work.now _
    c.requires.0 of.ensures.histories of.ensures.unchanged c.start.ensures c.part.ensures c.loop-i.invariant (omega arith) (search rules)
