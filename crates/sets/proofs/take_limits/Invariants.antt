-- `sets::take_limits` meets its contract. The invariant: the places are the bytes' first i limits, and zeros. Assumes nothing.
use mathlib.Core.Path.{◌≡◌}
use Rattle.sets.specs.Bytes.{set_with}
use Rattle.sets.proofs.take_limits.Given as goal

abbrev pub invariant-loop-i : goal.invariant-loop-i
invariant-loop-i l = l.limits ≡ (set_with l.bytes l.i).limits
