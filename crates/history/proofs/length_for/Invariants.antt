-- `history::length_for`: the limits passed ask for no more than the length so far. Assumes nothing.
use Prim.Native.Nat.{ℕ, suc, ◌≤◌, ◌<◌}
use Rattle.meaning.specs.Limit.{width}
use Rattle.meaning.specs.Sets.{SetAllowed, rule_at}
use Rattle.history.proofs.length_for.Given as goal

abbrev pub invariant-loop-limit : goal.invariant-loop-limit
invariant-loop-limit l =
    ((w : ℕ) → SetAllowed w l.fn.set → l.length < w) × ((j : ℕ) → j < l.limit-index → width (rule_at l.fn.set j) ≤ suc l.length)
