-- `history::push`: a shift and an or are a sum. Assumes nothing.
use mathlib.Core.Path.{◌≡◌, ap, ◌∙◌}
use Prim.Native.Nat.{◌*◌, ◌%◌}
use native.Mathlib.Omega.{arith}
use lib.Bits.{bit_and, bit_or, or_shifted, and_le_r}
use Rattle.patterns.specs.Outcome.{bit}
use Rattle.patterns.proofs.Numbers.{bit_le}
use Rattle.history.specs.History.{shifted}
use Rattle.history.proofs.push.Goals as goal

pub returns : goal.returns
unfolding shifted
returns c =
    let h = c.args.history in
    let b = bit c.args.hit in
    let mask = c.args.mask in
    let e : h * 2 % 65536 ≡ h * 2 = omega arith in (
      ap (λ z. bit_and (bit_or z b) mask) e ∙ ap (λ z. bit_and z mask) (or_shifted h 1 b (omega (arith, bit_le c.args.hit))),
      and_le_r (bit_or (h * 2 % 65536) b) mask,
    )
