-- `history::blocked_by`: no limit that was passed blocks. Assumes nothing.
use mathlib.Core.Path.{◌≡◌}
use mathlib.Core.Bool.{true}
use Prim.Native.Nat.{ℕ, ◌<◌}
use Rattle.meaning.specs.Sets.{rule_at}
use Rattle.history.specs.MayMiss.{may_miss_under}
use Rattle.history.proofs.blocked_by.Given as goal

abbrev pub invariant-loop-i : goal.invariant-loop-i
invariant-loop-i l = (j : ℕ) → j < l.i → may_miss_under (rule_at l.set j) l.history ≡ true
