-- `numbering::Numbers::follow`: the class after a possible outcome is visited, and one that isn't possible is passed over. Assumes nothing.
use mathlib.Core.Path.{refl, sym, ◌∙◌, subst}
use Rattle.classes.specs.Area.{class_at}
use Rattle.numbering.specs.Rows.{Visited}
use Rattle.numbering.proofs.Reading.{read_none, read_more}
use Rattle.numbering.proofs.Numbers.follow.Goals as goal

pub returns-then-may_follow : goal.returns-then-may_follow
returns-then-may_follow c =
    let a = c.args.self.now in
    let V = c.visit.ensures in
    record {
      buffer = V.buffer;
      histories = V.histories;
      stored = read_more a.n a.work.now _ a.count _ c.args.i c.args.hit c.requires.1 c.requires.0
          (sym c.may_follow.ensures ∙ c.if-may_follow.true)
          (subst (λ h. Visited a.n a.work.now c.visit.new.self.work.now (class_at a.work.now h) a.count c.visit.new.self.count) c.push_index.ensures.0 V.stored);
    }

pub returns-else-may_follow : goal.returns-else-may_follow
returns-else-may_follow c =
    let a = c.args.self.now in
    record {
      buffer = refl;
      histories = refl;
      stored = read_none a.n a.work.now a.count c.args.i c.args.hit c.requires.1 (sym c.may_follow.ensures ∙ c.if-may_follow.false);
    }
