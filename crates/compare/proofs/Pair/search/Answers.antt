-- `compare::Pair::search`: the histories are scanned block by block, and none in an earlier block splits the sets. Assumes nothing.
use mathlib.Core.Path.{◌≡◌, subst}
use mathlib.Core.Bool.{false}
use mathlib.Core.List.{[], ◌∷◌, ◌++◌}
use Prim.Native.Nat.{suc, ◌-◌, ◌/◌, ◌^◌}
use native.Mathlib.Omega.{arith}
use Rattle.compare.specs.Splits.{outcomes_of}
use Rattle.compare.proofs.FirstFound.{Block, NoneFrom, block_is, none_before, none_at_all, first_found, none_covers}
use Rattle.compare.proofs.Pair.search.Goals.{After-count_of-block}
use Rattle.compare.proofs.Pair.search.Goals as goal

block : (c : After-count_of-block) → Block c.args.self.now.m c.loop-n.n (c.count_of-all.result - c.count_of-block.result) (c.count_of-all.result - c.count_of-block.result / 2)
block c = block_is c.args.self.now.m c.loop-n.n c.count_of-all.result c.count_of-block.result c.loop-n-test.true c.count_of-all.ensures.power c.count_of-block.ensures.power

pub overflow_sub-all : goal.overflow_sub-all
overflow_sub-all c = omega (arith, (block c).begins, c.count_of-all.ensures.power, c.count_of-block.ensures.power)

pub overflow_sub-all-in-loop-n : goal.overflow_sub-all-in-loop-n
overflow_sub-all-in-loop-n c = omega (arith, (block c).begins, c.count_of-all.ensures.power, c.count_of-block.ensures.power)

pub returns-in-Some : goal.returns-in-Some
returns-in-Some c =
    let p = c.args.self.now in
    let n = c.loop-n.n in
    let (from, below, splits, before) = c.in-Some.ensures in (
      outcomes_of n c.in-Some.found ++ false ∷ [],
      first_found p.first p.second p.m p.enough_for_first p.enough_for_second n _ _ c.in-Some.found c.loop-n-test.true
          (block (goal.at.returns-in-Some c).After-count_of-block) from below c.loop-n.invariant before splits,
      c.with_miss.ensures,
    )

pub returns-in_default : goal.returns-in_default
returns-in_default c =
    let p = c.args.self.now in
    let n = c.loop-n.n in
    let e : n ≡ p.m = omega arith in
    none_covers p.first p.second p.m p.enough_for_first p.enough_for_second (none_at_all p.first p.second p.m
    (subst (λ z. NoneFrom p.first p.second p.m (2 ^ p.m - 2 ^ suc z / 2)) e
    (none_before p.first p.second p.m n _ _ (block (goal.at.returns-in_default c).After-count_of-block) c.in_default.ensures c.loop-n.invariant)))
