-- `classes::Area::place`: the stores of a history that joins a class, or that is a class of its own. Assumes nothing.
use mathlib.Core.Path.{refl}
use Rattle.classes.proofs.Placing.{placed_joined, placed_alone}
use Rattle.classes.proofs.Area.place.Goals as goal

pub returns-in-Some : goal.returns-in-Some
returns-in-Some c =
    let a = c.args.self.now in
    record {
      buffer = refl;
      histories = refl;
      stored = placed_joined a.work.now a.n c.args.h c.signature-s.result a.long c.requires.0 c.requires.1
          c.signature-s.ensures.0 c.in-Some.class c.in-Some.ensures;
    }

pub returns : goal.returns
returns c =
    let a = c.args.self.now in
    record {
      buffer = refl;
      histories = refl;
      stored = placed_alone a.work.now a.n c.args.h c.signature-s.result a.long c.requires.0 c.requires.1
          c.signature-s.ensures.0 c.bucket_of-b.result c.bucket_of-b.ensures.0 c.in_default.ensures;
    }
