-- `carry::test_head`: a head that passes is as long as the record. Assumes nothing.
use mathlib.Core.Path.{◌∙◌}
use native.Mathlib.Omega.{arith}
use Prim.Native.Nat.{◌≤◌}
use lib.ListN.{length}
use Rattle.layout.proofs.Head.{head_passed}
use Rattle.carry.specs.Bytes.{around_set}
use Rattle.carry.proofs.Said.{no_head_fault}
use Rattle.carry.proofs.test_head.Goals.{Else-is_err}
use Rattle.carry.proofs.test_head.Goals as goal

long : (c : Else-is_err) → around_set c.args.version.held ≤ length c.args.bytes.now
long c =
    let a = c.args in
    (head_passed (around_set a.version.held) a.version.number 18 18 a.bytes.now (c.check_head.ensures 18 18 ∙ no_head_fault 18 18 c.check_head.result c.if-is_err.ensures.value)).0

pub overflow_sub-result : goal.overflow_sub-result
overflow_sub-result c = omega (arith, long c)

pub returns-clause-begins : goal.returns-clause-begins
returns-clause-begins c = let l = long c in record { past_head = omega (arith, l); before_end = omega (arith, l) }
