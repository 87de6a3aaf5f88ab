-- `compare::Pair::keeps`: what is left of the history is kept exactly when all of it is. Assumes nothing.
use mathlib.Core.Logic.{◌↔◌}
use Prim.Native.Nat.{◌-◌, ◌^◌, ◌<◌}
use Rattle.meaning.specs.Sets.{KeptBy}
use Rattle.compare.specs.Splits.{outcomes_of}
use Rattle.compare.proofs.Pair.keeps.Given as goal

abbrev pub invariant-loop-rest : goal.invariant-loop-rest
invariant-loop-rest l =
    let m = l.self.m in
    (l.rest < 2 ^ m) × (KeptBy l.self.first (outcomes_of m l.history) ↔ KeptBy l.self.first (outcomes_of m l.rest))

abbrev pub decreases-loop-rest : goal.decreases-loop-rest
decreases-loop-rest l = 2 ^ l.self.m - l.rest
