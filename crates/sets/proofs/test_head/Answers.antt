-- `sets::test_head` meets its contract: the head decides, and where it is passed the rows of 3 and 4 do. Assumes nothing.
use mathlib.Core.Path.{◌≡◌, sym, ap₂, ◌∙◌}
use mathlib.Core.Bool.{not}
use mathlib.Core.List.{[], ◌∷◌}
use Prim.Native.Nat.{ℕ, ◌+◌, ◌*◌, ◌≤◌}
use native.Mathlib.Omega.{arith}
use lib.Dec.{eqb}
use lib.ListN.{length}
use Rattle.std.proofs.lemmas.Result.{err_from_is_err_and}
use Rattle.layout.specs.Refusal.{Row, row, Tested, first}
use Rattle.layout.specs.Head.{head_rows as opening_rows}
use Rattle.layout.proofs.Head.{head_passed}
use Rattle.layout.proofs.Rows.{refused_before, passed_before}
use Rattle.sets.specs.Rows.{count_row, head_rows}
use Rattle.sets.proofs.Turns.{tests}
use Rattle.sets.proofs.test_head.Goals.{After-wide-count, In-Ok}
use Rattle.sets.proofs.test_head.Goals as goal

-- tests 3 and 4 over the numbers that were read
abbrev length_row : (rest count : ℕ) → Row
length_row rest count = row 4 (not (eqb rest (2 + 3 * count))) 0

abbrev count_over : (rest count : ℕ) → Tested
count_over rest count = first (count_row count ∷ length_row rest count ∷ [])

-- the head was passed
long : (c : In-Ok) → 6 ≤ length c.args.bytes.now
long c = (head_passed 6 1 1 2 c.args.bytes.now (c.in-Ok.ensures 1 2)).0

at_count : (c : After-wide-count) → count_over c.length_field-rest.result c.wide-count.result ≡ first (head_rows c.args.bytes.now)
at_count c =
    ap₂ count_over c.length_field-rest.ensures.0 c.wide-count.ensures.0
    ∙ sym (passed_before (opening_rows 6 1 1 2 c.args.bytes.now) _ (c.in-Ok.ensures 1 2))

pub returns-in-Err-Length : goal.returns-in-Err-Length
returns-in-Err-Length c =
    let e = rw c.in-Err-Length.field-0-is at c.in-Err-Length.ensures 1 2 in
    sym (refused_before (opening_rows 6 1 1 2 c.args.bytes.now) _ e)

pub returns-in-Err-Version : goal.returns-in-Err-Version
returns-in-Err-Version c =
    let e = rw c.in-Err-Version.field-0-is at c.in-Err-Version.ensures 1 2 in
    sym (refused_before (opening_rows 6 1 1 2 c.args.bytes.now) _ e)

pub length_field-rest-requires : goal.length_field-rest-requires
length_field-rest-requires c = omega (arith, long (goal.at.length_field-rest-requires c).In-Ok)

pub bounds-bytes-5 : goal.bounds-bytes-5
bounds-bytes-5 c = omega (arith, long (goal.at.bounds-bytes-5 c).In-Ok)

pub returns-in_err-test_count : goal.returns-in_err-test_count
returns-in_err-test_count c =
    let p = err_from_is_err_and c.from_residual.result c.from_residual.ensures.1 in
    rw (p.1, p.2)
    (sym (refused_before (count_row c.wide-count.result ∷ []) _ (sym c.in_err-test_count.ensures)) ∙ at_count (goal.at.returns-in_err-test_count c).After-wide-count)

pub returns-then-rest-count : goal.returns-then-rest-count
unfolding first
returns-then-rest-count c =
    let count = c.wide-count.result in
    search tests
    ∙ sym (passed_before (count_row count ∷ []) (length_row c.length_field-rest.result count ∷ []) (sym c.in_ok-test_count.ensures))
    ∙ at_count (goal.at.returns-then-rest-count c).After-wide-count

pub returns : goal.returns
unfolding first
returns c =
    let count = c.wide-count.result in
    search tests
    ∙ sym (passed_before (count_row count ∷ []) (length_row c.length_field-rest.result count ∷ []) (sym c.in_ok-test_count.ensures))
    ∙ at_count (goal.at.returns c).After-wide-count
