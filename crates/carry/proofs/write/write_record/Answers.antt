-- `carry::write::write_record` meets its contract: the rows of the set decide, and where those are passed the buffer's length does. Assumes nothing.
use mathlib.Core.Path.{◌≡◌, refl, sym, ap, ◌∙◌}
use mathlib.Core.List.{◌++◌}
use Prim.Native.Nat.{◌+◌}
use native.Mathlib.Omega.{arith}
use lib.ListN.{length, take, drop}
use Rattle.layout.specs.Refusal.{passed, first}
use Rattle.layout.specs.Refused.{says}
use Rattle.layout.specs.Write.{length_of}
use Rattle.layout.proofs.Rows.{refused_before, passed_before, too_short, long_enough}
use Rattle.layout.proofs.Runs.{put_next}
use Rattle.layout.proofs.Write.{written_by}
use Rattle.meaning.specs.Longest.{longest}
use Rattle.sets.specs.Rows.{set_rows}
use Rattle.sets.proofs.Accepted.{Head, accepted_head}
use Rattle.carry.specs.Bytes.{new_version, carried, head_bytes, tail_bytes, tail_size, size_of}
use Rattle.carry.proofs.Said.{handed_on}
use Rattle.carry.proofs.write.write_record.Goals.{In_ok-read_set}
use Rattle.carry.proofs.write.write_record.Goals as goal

at_room : (c : In_ok-read_set) → first (set_rows longest c.args.set.now) ≡ passed
at_room c = sym c.in_ok-read_set.ensures.answer

head : (c : In_ok-read_set) → Head c.args.set.now
head c = accepted_head longest c.args.set.now (at_room c)

pub returns-in_err-read_set : goal.returns-in_err-read_set
returns-in_err-read_set c =
    let s = c.args in
    let e = handed_on _ c.from_residual.result c.from_residual.ensures.1 in
    written_by _ _ _ s.out.now _ _ _ (refused_before _ _ (sym c.in_err-read_set.ensures.answer)) (ap says e) (ap length_of e) refl

pub returns-then-out-size : goal.returns-then-out-size
returns-then-out-size c =
    let s = c.args in
    written_by _ _ _ s.out.now _ _ _ (passed_before _ _ (at_room (goal.at.returns-then-out-size c).In_ok-read_set) ∙ too_short _ _ _ _ c.if-out-size.true) refl refl refl

pub put_set-requires : goal.put_set-requires
put_set-requires c = let h = head (goal.at.put_set-requires c).In_ok-read_set in (omega arith, omega arith)

pub returns : goal.returns
returns c =
    let s = c.args in
    let set = s.set.now in
    let n = length set in
    let whole : 5 + n + tail_size carried ≡ size_of carried set = omega arith in
    written_by _ _ _ s.out.now _ _ _
    (passed_before _ _ (at_room (goal.at.returns c).In_ok-read_set) ∙ long_enough _ _ _ _ c.if-out-size.false) refl refl
    (c.put_guard.ensures
    ∙ ap (λ o. take (5 + n) o ++ tail_bytes s.guard ++ drop (5 + n + tail_size carried) o) c.put_set.ensures
    ∙ put_next s.out.now (head_bytes new_version carried set) (tail_bytes s.guard) (5 + n) (tail_size carried) (omega arith)
    ∙ ap (λ k. head_bytes new_version carried set ++ tail_bytes s.guard ++ drop k s.out.now) whole)
