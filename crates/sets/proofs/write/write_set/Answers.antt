-- `sets::write::write_set` meets its contract: the rows of the set decide, and where those are passed the buffer's length does. Assumes nothing.
use mathlib.Core.Path.{◌≡◌, refl, sym, ap, ◌∙◌}
use mathlib.Core.List.{◌++◌}
use Prim.Native.Nat.{◌+◌, ◌*◌}
use native.Mathlib.Omega.{arith}
use lib.ListN.{take, drop}
use Rattle.std.proofs.lemmas.Result.{err_from_is_err_and}
use Rattle.layout.specs.Refusal.{passed, first}
use Rattle.layout.proofs.Rows.{refused_before, passed_before, too_short, long_enough}
use Rattle.layout.proofs.Runs.{put_next}
use Rattle.layout.proofs.Write.{written_by}
use Rattle.meaning.specs.Longest.{longest}
use Rattle.meaning.specs.Sets.{SetAllowed}
use Rattle.sets.specs.Bytes.{head_bytes, limit_bytes}
use Rattle.sets.specs.Rows.{memory_rows}
use Rattle.sets.proofs.Accepted.{memory_allowed}
use Rattle.sets.proofs.write.write_set.Goals.{In_ok-test_memory}
use Rattle.sets.proofs.write.write_set.Goals as goal

at_room : (c : In_ok-test_memory) → first (memory_rows longest c.args.set) ≡ passed
at_room c = sym c.in_ok-test_memory.ensures

allowed : (c : In_ok-test_memory) → SetAllowed longest c.args.set
allowed c = memory_allowed longest c.args.set (at_room c)

pub returns-in_err-test_memory : goal.returns-in_err-test_memory
returns-in_err-test_memory c =
    let s = c.args in
    let p = err_from_is_err_and c.from_residual.result c.from_residual.ensures.1 in
    rw (p.1, p.2)
    (written_by _ _ _ s.out.now _ _ _ (refused_before _ _ (sym c.in_err-test_memory.ensures)) refl refl refl)

pub overflow_mul-size : goal.overflow_mul-size
overflow_mul-size c = let a = allowed (goal.at.overflow_mul-size c).In_ok-test_memory in omega arith

pub overflow_add-size : goal.overflow_add-size
overflow_add-size c = let a = allowed (goal.at.overflow_add-size c).In_ok-test_memory in omega arith

pub returns-then-out-size : goal.returns-then-out-size
returns-then-out-size c =
    let s = c.args in
    written_by _ _ _ s.out.now _ _ _ (passed_before _ _ (at_room (goal.at.returns-then-out-size c).In_ok-test_memory) ∙ too_short _ _ _ _ c.if-out-size.true) refl refl refl

pub put_head-requires : goal.put_head-requires
put_head-requires c = let a = allowed (goal.at.put_head-requires c).In_ok-test_memory in (omega arith, omega arith)

pub put_limits-requires : goal.put_limits-requires
put_limits-requires c = let a = allowed (goal.at.put_limits-requires c).In_ok-test_memory in (omega arith, omega arith)

pub returns : goal.returns
returns c =
    let s = c.args in
    let n = s.set.count in
    written_by _ _ _ s.out.now _ _ _
    (passed_before _ _ (at_room (goal.at.returns c).In_ok-test_memory) ∙ long_enough _ _ _ _ c.if-out-size.false) refl refl
    (c.put_limits.ensures
    ∙ ap (λ o. take 6 o ++ limit_bytes s.set 0 n ++ drop (6 + 3 * n) o) c.put_head.ensures
    ∙ put_next s.out.now (head_bytes n) (limit_bytes s.set 0 n) 6 (3 * n) refl)
