-- `numbering::Numbers::visit`: a class without a number gets the first one not used, for which there is room. Assumes nothing.
use mathlib.Core.Path.{◌≡◌, refl}
use Prim.Native.Nat.{◌<◌}
use native.Mathlib.Omega.{arith}
use lib.ListN.{length-set}
use Rattle.classes.specs.Area.{class_at}
use Rattle.numbering.specs.Numbered.{number_at}
use Rattle.numbering.proofs.FirstSight.{number_below, visited_new}
use Rattle.numbering.proofs.Numbers.visit.Goals.{Start}
use Rattle.numbering.proofs.Numbers.visit.Goals as goal

count_below : (s : Start) → number_at s.args.self.now.n s.args.self.now.work.now (class_at s.args.self.now.work.now s.args.history) ≡ 0
    → s.args.self.now.count < s.args.self.now.n
count_below s e =
    let a = s.args.self.now in
    let h = s.args.history in
    let R = s.requires.1 in
    number_below a.n a.work.now (class_at a.work.now h) a.count a.long
    (omega (arith, R.no_greater h s.requires.0)) (R.own_class h s.requires.0) s.requires.2 e

pub bounds-self-self-3 : goal.bounds-self-self-3
bounds-self-self-3 c =
    simp length-set (omega (arith, c.args.self.now.long, count_below (goal.at.bounds-self-self-3 c).Start c.if-self-class-ne0.false))

pub returns : goal.returns
returns c =
    let a = c.args.self.now in
    let h = c.args.history in
    let R = c.requires.1 in
    record {
      buffer = refl;
      histories = refl;
      stored = visited_new a.n a.work.now (class_at a.work.now h) a.count a.long
          (omega (arith, R.no_greater h c.requires.0)) (R.own_class h c.requires.0) c.requires.2 c.if-self-class-ne0.false;
    }
