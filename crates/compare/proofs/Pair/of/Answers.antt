-- `compare::Pair::of`: the longer of the two lengths. Assumes nothing.
use Prim.Native.Nat.{ℕ, suc, ◌≤◌}
use native.Mathlib.Omega.{arith}
use Rattle.meaning.specs.declared.LimitSet.{LimitSet}
use Rattle.meaning.specs.Longest.{longest}
use Rattle.meaning.specs.Sets.{SetAllowed}
use Rattle.meaning.proofs.Widths.{set_wider}
use Rattle.history.specs.Length.{LongEnough}
use Rattle.compare.proofs.Pair.of.Goals as goal

longer : (s : LimitSet) (m n : ℕ) → LongEnough s m → m ≤ n → SetAllowed (suc n) s
longer s m n e h = set_wider (suc m) (suc n) s (omega arith) e.enough

pub invariant_of-result : goal.invariant_of-result
invariant_of-result c = record {
  short = omega (arith, c.length_for.ensures.short longest c.requires.0, c.length_for-2.ensures.short longest c.requires.1);
  enough_for_first = longer c.args.first _ _ c.length_for.ensures (omega arith);
  enough_for_second = longer c.args.second _ _ c.length_for-2.ensures (omega arith);
}
