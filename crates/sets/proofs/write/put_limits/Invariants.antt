-- `sets::write::put_limits` meets its contract. The invariant: past byte 6 stand the first i limits, and then what stood there. Assumes nothing.
use mathlib.Core.Path.{◌≡◌}
use lib.ListN.{length}
use Rattle.sets.proofs.Turns.{written_to}
use Rattle.sets.proofs.write.put_limits.Given as goal

abbrev pub invariant-loop-i : goal.invariant-loop-i
invariant-loop-i l = (length l.out ≡ length l.initial.out) × (l.out ≡ written_to l.set l.initial.out l.i)
