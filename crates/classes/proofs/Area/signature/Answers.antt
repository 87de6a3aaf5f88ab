-- `classes::Area::signature`: both next histories are among the n, and the bit of h picks the case of the definition. Assumes nothing.
use mathlib.Core.Path.{ap, ◌∙◌}
use native.Mathlib.Omega.{arith}
use Rattle.classes.specs.Area.{class_at}
use Rattle.classes.proofs.Signatures.{sig_blocked, sig_open}
use Rattle.classes.proofs.Area.signature.Goals as goal

pub returns-then-self-h-lt-MAY_MISS : goal.returns-then-self-h-lt-MAY_MISS
returns-then-self-h-lt-MAY_MISS c =
    let n = c.args.self.now.n in
    let w = c.args.self.now.work.now in (
      c.class_of-hit.ensures.0 ∙ ap (class_at w) c.push_index-2.ensures.0 ∙ sig_blocked w n c.args.h c.if-self-h-lt-MAY_MISS.true,
      omega arith,
    )

pub returns : goal.returns
returns c =
    let n = c.args.self.now.n in
    let w = c.args.self.now.work.now in (
      omega (
        arith,
        ap (class_at w) c.push_index.ensures.0,
        ap (class_at w) c.push_index-2.ensures.0,
        sig_open w n c.args.h c.if-self-h-lt-MAY_MISS.false,
      ),
      omega arith,
    )
