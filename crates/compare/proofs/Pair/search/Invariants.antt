-- `compare::Pair::search`: the histories are scanned block by block, and none in an earlier block splits the sets. Assumes nothing.
use Prim.Native.Nat.{◌-◌, ◌/◌, ◌^◌}
use Rattle.compare.proofs.FirstFound.{NoneFrom}
use Rattle.compare.proofs.Pair.search.Given as goal

abbrev pub invariant-loop-n : goal.invariant-loop-n
invariant-loop-n l = let m = l.self.m in NoneFrom l.self.first l.self.second m (2 ^ m - 2 ^ l.n / 2)
