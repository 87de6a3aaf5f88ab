-- `printing::print_set`: an input that is too long, and else what the builder answers, each with its text. Assumes nothing.
use mathlib.Core.Path.{refl, sym}
use borrow.Author.Rules.{rules}
use native.Mathlib.Omega.{arith}
use lib.Seq.{length-take-le}
use Rattle.printing.specs.Longest.{printed_longest}
use Rattle.printing.proofs.Adding.{holds_text}
use Rattle.printing.proofs.Answers.{printed_long, printed_refused, printed_built, built_room}
use Rattle.printing.proofs.print_set.Goals as goal
use Rattle.printing.proofs.print_set.Goals.{in-Err, in-Ok}

pub returns-then-input-gt-MOST_BYTES : goal.returns-then-input-gt-MOST_BYTES
returns-then-input-gt-MOST_BYTES c =
    printed_long printed_longest c.args.input.now c.args.work.now c.args.table.now c.args.out.now _ _ c.if-input-gt-MOST_BYTES.true (search (rules, holds_text _ _ _ _ c.start-text.ensures.unchanged c.start-text.ensures.place c.put_refusal.ensures))

pub slice_bounds-put_table-end : goal.slice_bounds-put_table-end
slice_bounds-put_table-end c =
    built_room printed_longest c.args.input.now c.args.work.now _ c.args.table.now _ refl c.in-Ok.ensures

pub slice_bounds-put_table-end-in-Ok : goal.slice_bounds-put_table-end-in-Ok
slice_bounds-put_table-end-in-Ok c =
    sym (length-take-le _ _ (built_room printed_longest c.args.input.now c.args.work.now _ c.args.table.now _ refl c.in-Ok.ensures))

pub returns : goal.returns
returns c =
    let start = c.start-text.ensures in
    elim c.match-build_within.branch [
      | in-Err w ↦ printed_refused printed_longest c.args.input.now c.args.work.now c.args.table.now c.args.out.now _ _ _ _ c.if-input-gt-MOST_BYTES.false refl w.in-Err.ensures (search (rules, holds_text _ _ _ _ start.unchanged start.place w.put_refusal-in-Err.ensures))
      | in-Ok w ↦ printed_built printed_longest c.args.input.now c.args.work.now c.args.table.now c.args.out.now _ _ _ _ c.if-input-gt-MOST_BYTES.false (omega arith) refl w.in-Ok.ensures (search (rules, holds_text _ _ _ _ start.unchanged start.place w.put_table.ensures))
    ]
