-- `sets::test_limits` meets its contract. The invariant: the rows from limit i on decide, and `nothing` says whether the limits before it are idle; past the last limit the row of 21 decides. Assumes nothing.
use mathlib.Core.Path.{◌≡◌}
use Prim.Native.Nat.{◌-◌}
use Rattle.layout.specs.Refusal.{first}
use Rattle.sets.specs.Rows.{limits_rows}
use Rattle.sets.proofs.Turns.{idle_to}
use Rattle.sets.proofs.test_limits.Given as goal

abbrev pub invariant-loop-i : goal.invariant-loop-i
invariant-loop-i l = (first (limits_rows l.widest l.set 0 l.set.count) ≡ first (limits_rows l.widest l.set l.i (l.set.count - l.i))) × (l.nothing ≡ idle_to l.set l.i)
