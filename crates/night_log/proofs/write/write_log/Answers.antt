-- `night_log::write::write_log` meets its contract: each refusal is the first row that holds, and past them the head and the outcomes are written. Assumes nothing.
use mathlib.Core.Path.{◌≡◌, refl, sym, ap, ◌∙◌}
use mathlib.Core.List.{List, [], ◌∷◌, ◌++◌}
use Prim.Native.Nat.{ℕ, ◌+◌, ◌<◌, ◌≤◌}
use native.Mathlib.Omega.{arith}
use borrow.Author.Tests.{le-ltb, lt-ltb}
use lib.ListN.{length, take, drop, length-map}
use Rattle.std.specs.Prelude.{Result}
use Rattle.layout.specs.declared.Refused.{Refused}
use Rattle.layout.specs.Refusal.{Tested, passed, refused, first}
use Rattle.layout.specs.Refused.{says}
use Rattle.layout.specs.Write.{room_row, length_of, length_when, buffer_when}
use Rattle.layout.proofs.Rows.{first_here, first_skip, too_short, long_enough, refused_before, passed_before}
use Rattle.layout.proofs.Runs.{put_next}
use Rattle.layout.proofs.Write.{written_by}
use Rattle.patterns.specs.Outcome.{outcome, outcomes, outcome_rows}
use Rattle.patterns.proofs.Outcomes.{outcomes_passed}
use Rattle.night_log.specs.Bytes.{packed_size, size_of, packed, head_bytes, log_of}
use Rattle.night_log.specs.Rows.{most_outcomes, write_rows}
use Rattle.night_log.specs.Write.{LogWrittenAs}
use Rattle.night_log.proofs.write.write_log.Goals.{After-packed_size-needed, In_default}
use Rattle.night_log.proofs.write.write_log.Goals as goal

module _ (pattern out : List ℕ) where
  -- 15, and what comes after it
  many : most_outcomes < length pattern → first (write_rows pattern out) ≡ refused 15 0
  many h = first_here 15 0 _ _ (lt-ltb _ _ h)

  few_rows : length pattern ≤ most_outcomes → first (write_rows pattern out) ≡ first (outcome_rows pattern 0 ++ (room_row out (size_of (length pattern)) ∷ []))
  few_rows h = first_skip 15 0 _ _ (le-ltb _ _ h)

  written : (t : Tested) (out' : List ℕ) (r : Result ℕ Refused) → first (write_rows pattern out) ≡ t → says r ≡ t → length_of r ≡ length_when t (size_of (length pattern))
      → out' ≡ buffer_when t (size_of (length pattern)) (log_of (outcomes pattern)) out → LogWrittenAs pattern out out' r
  written = written_by (write_rows pattern out) (size_of (length pattern)) (log_of (outcomes pattern)) out

-- past the tests of the pattern
few : (c : In_default) → length c.args.pattern.now ≤ most_outcomes
few c = omega (arith, c.if-count-gt-MOST_OUTCOMES.false)

at_room : (c : In_default) → first (write_rows c.args.pattern.now c.args.out.now) ≡ first (room_row c.args.out.now (size_of (length c.args.pattern.now)) ∷ [])
at_room c =
    let p = c.args.pattern.now in
    let o = c.args.out.now in
    few_rows p o (few c) ∙ passed_before (outcome_rows p 0) (room_row o (size_of (length p)) ∷ []) c.in_default.ensures.tested

-- the length needed
sized : (c : After-packed_size-needed) → 9 + c.packed_size-needed.result ≡ size_of (length c.args.pattern.now)
sized c = ap (λ z. 9 + z) c.packed_size-needed.ensures.0

pub returns-then-count-gt-MOST_OUTCOMES : goal.returns-then-count-gt-MOST_OUTCOMES
returns-then-count-gt-MOST_OUTCOMES c = let s = c.args in written s.pattern.now s.out.now _ _ _ (many s.pattern.now s.out.now c.if-count-gt-MOST_OUTCOMES.true) refl refl refl

pub returns-in-Some : goal.returns-in-Some
returns-in-Some c =
    let s = c.args in
    written s.pattern.now s.out.now (refused 13 c.in-Some.place) _ _
    (few_rows s.pattern.now s.out.now (omega (arith, c.if-count-gt-MOST_OUTCOMES.false))
    ∙ refused_before (outcome_rows s.pattern.now 0) (room_row s.out.now (size_of (length s.pattern.now)) ∷ []) c.in-Some.ensures.tested) refl refl refl

pub returns-then-out-needed : goal.returns-then-out-needed
returns-then-out-needed c =
    let at = goal.at.returns-then-out-needed c in
    let s = c.args in
    let n = size_of (length s.pattern.now) in
    let d = sized at.After-packed_size-needed in
    written s.pattern.now s.out.now (refused 9 n) _ _
    (at_room at.In_default ∙ too_short 9 n (length s.out.now) n (omega (arith, d, c.if-out-needed.true))) (ap (refused 9) d) refl refl

pub invariant_of-checked : goal.invariant_of-checked
invariant_of-checked c = record {
  all = (outcomes_passed c.args.pattern.now 0).0 c.in_default.ensures.tested;
  few = omega (arith, few (goal.at.invariant_of-checked c).In_default);
}

pub returns : goal.returns
unfolding first
returns c =
    let at = goal.at.returns c in
    let pattern = c.args.pattern.now in
    let out = c.args.out.now in
    let n = length pattern in
    let p = outcomes pattern in
    let v = packed p 0 (packed_size n) in
    let d = sized at.After-packed_size-needed in
    written pattern out passed _ _ (at_room at.In_default ∙ long_enough 9 (size_of n) (length out) (size_of n) (omega (arith, d, c.if-out-needed.false))) refl d
    (c.put_outcomes.ensures
    ∙ ap (λ z. take 9 z ++ v ++ drop (9 + packed_size n) z) c.put_head.ensures
    ∙ put_next out (head_bytes n) v 9 (packed_size n) refl
    ∙ ap (λ z. head_bytes z ++ packed p 0 (packed_size z) ++ drop (size_of n) out) (sym (length-map pattern outcome)))
