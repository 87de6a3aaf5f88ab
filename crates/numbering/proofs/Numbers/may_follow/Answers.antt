-- `numbering::Numbers::may_follow`: the definition's two cases. Assumes nothing.
use mathlib.Core.Path.{ap, sym}
use Rattle.numbering.specs.Rows.{possible}
use Rattle.numbering.proofs.Numbers.may_follow.Goals as goal

pub returns : goal.returns
returns c =
    ap (possible c.args.self.now.work.now c.args.class) (sym c.if-hit.false)
