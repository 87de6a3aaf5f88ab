-- `Entries::of`: the head decides, and where it is passed the rows of the counts do. Assumes nothing.
use mathlib.Core.Path.{◌≡◌, refl, sym, ap₂, ◌∙◌}
use mathlib.Core.Bool.{not, ◌||◌}
use mathlib.Core.List.{[], ◌∷◌}
use Prim.Native.Nat.{ℕ, ◌+◌, ◌*◌, ◌≤◌}
use native.Mathlib.Omega.{arith}
use borrow.Author.Tests.{le-ltb, lt-ltb, eq-eqb, ne_eqb}
use lib.Dec.{eqb, ltb}
use lib.ListN.{length}
use Rattle.layout.specs.Refusal.{Tested, row, first}
use Rattle.layout.specs.Head.{head_rows}
use Rattle.layout.proofs.Head.{head_passed}
use Rattle.layout.proofs.Rows.{refused_before, passed_before}
use Rattle.table.specs.Rows.{most_states, count_rows}
use Rattle.table.proofs.Entries.of.Goals.{In-Ok, After-pair-states}
use Rattle.table.proofs.Entries.of.Goals as goal

ruleset tests = (lt-ltb, le-ltb, eq-eqb, ne_eqb)

-- the counts over the numbers that were read
abbrev counts_over : (rest n : ℕ) → Tested
counts_over rest n = first (row 12 (eqb n 0 || ltb most_states n) 0 ∷ row 12 (not (eqb rest (3 + 4 * n))) 0 ∷ [])

-- the head was passed
long : (c : In-Ok) → 7 ≤ length c.args.bytes.now
long c = (head_passed 7 1 10 11 c.args.bytes.now (c.in-Ok.ensures 10 11)).0

at_count : (c : After-pair-states) → counts_over c.length_field-rest.result c.pair-states.result ≡ first (count_rows c.args.bytes.now)
at_count c =
    ap₂ counts_over c.length_field-rest.ensures.0 c.pair-states.ensures
    ∙ sym (passed_before (head_rows 7 1 10 11 c.args.bytes.now) _ (c.in-Ok.ensures 10 11))

pub returns-in-Err-Length : goal.returns-in-Err-Length
returns-in-Err-Length c =
    (sym (refused_before (head_rows 7 1 10 11 c.args.bytes.now) _ ((rw c.in-Err-Length.field-0-is at c.in-Err-Length.ensures) 10 11)), tt)

pub returns-in-Err-Version : goal.returns-in-Err-Version
returns-in-Err-Version c =
    (sym (refused_before (head_rows 7 1 10 11 c.args.bytes.now) _ ((rw c.in-Err-Version.field-0-is at c.in-Err-Version.ensures) 10 11)), tt)

pub length_field-rest-requires : goal.length_field-rest-requires
length_field-rest-requires c = omega (arith, long (goal.at.length_field-rest-requires c).In-Ok)

pub pair-states-requires : goal.pair-states-requires
pair-states-requires c = omega (arith, long (goal.at.pair-states-requires c).In-Ok)

pub returns-then-states-eq0 : goal.returns-then-states-eq0
unfolding first
returns-then-states-eq0 c = (search tests ∙ at_count (goal.at.returns-then-states-eq0 c).After-pair-states, tt)

pub returns-then-states-gt-MOST_STATES : goal.returns-then-states-gt-MOST_STATES
unfolding first
returns-then-states-gt-MOST_STATES c = (search tests ∙ at_count (goal.at.returns-then-states-gt-MOST_STATES c).After-pair-states, tt)

pub returns-then-rest-states : goal.returns-then-rest-states
unfolding first
returns-then-rest-states c = (search tests ∙ at_count (goal.at.returns-then-rest-states c).After-pair-states, tt)

pub returns : goal.returns
unfolding first
returns c = (search tests ∙ at_count (goal.at.returns c).After-pair-states, refl)

pub invariant_of-result : goal.invariant_of-result
invariant_of-result c =
    let (l, e, _) = head_passed 7 1 10 11 c.args.bytes.now (c.in-Ok.ensures 10 11) in
    record { counted = c.pair-states.ensures; within = omega (arith, c.length_field-rest.ensures.0) }
