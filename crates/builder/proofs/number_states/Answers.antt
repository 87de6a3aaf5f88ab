-- `builder::number_states`: the classes, and then their numbers. Assumes nothing.
use native.Mathlib.Omega.{arith}
use Rattle.meaning.specs.Longest.{longest}
use Rattle.builder.proofs.Holding.{held_of}
use Rattle.builder.proofs.number_states.Goals as goal

pub classes-requires : goal.classes-requires
classes-requires c = (c.requires.2.power, omega (arith, c.requires.1.short longest c.requires.0), c.requires.0, c.requires.3)

pub number-requires : goal.number-requires
number-requires c =
    (omega arith, omega (arith, c.classes.ensures.1.length_stays), (c.args.set, c.args.m, c.requires.2.power, c.classes.ensures.0))

pub returns : goal.returns
returns c =
    held_of c.args.set c.args.m c.requires.1 c.args.work.now c.classes.new.work _ c.number.result c.classes.ensures.0 c.args.n c.requires.2 c.requires.3 c.classes.ensures.1 c.number.ensures
