-- `builder::build_table`: each way out by its law. Assumes nothing.
use native.Mathlib.Omega.{arith}
use Rattle.meaning.specs.Longest.{longest}
use Rattle.meaning.proofs.Widths.{set_wider}
use Rattle.numbering.specs.Numbered.{numbered_machine}
use Rattle.builder.proofs.Windows.{area_suffices}
use Rattle.builder.proofs.Answers.{clear_within, short_table, whole_table}
use Rattle.builder.proofs.build_table.Goals as goal

pub length_for-m-requires : goal.length_for-m-requires
length_for-m-requires c =
    set_wider c.args.widest longest c.args.set c.requires.1 c.requires.2

pub count_of-n-requires : goal.count_of-n-requires
count_of-n-requires c =
    omega (arith, c.requires.1, c.length_for-m.ensures.short c.args.widest c.requires.2)

pub number_states-count-requires : goal.number_states-count-requires
number_states-count-requires c =
    let w = c.args.widest in (
      set_wider w longest c.args.set c.requires.1 c.requires.2,
      c.length_for-m.ensures,
      c.count_of-n.ensures,
      omega (arith, c.requires.3, area_suffices w _ _ c.count_of-n.ensures (c.length_for-m.ensures.short w c.requires.2)),
    )

pub returns-then-table-size : goal.returns-then-table-size
returns-then-table-size c =
    let w = c.number_states-count.new.work in
    let m = numbered_machine c.count_of-n.result w c.number_states-count.result in (
      m,
      short_table c.args.widest c.args.set c.args.work.now c.clear.new.work c.args.table.now m c.number_states-count.ensures.canonical
          (clear_within c.args.widest c.length_for-m.result c.count_of-n.result c.area_size-area.result c.args.work.now w c.clear.new.work c.area_size-area.ensures
          c.count_of-n.ensures (c.length_for-m.ensures.short c.args.widest c.requires.2) c.number_states-count.ensures.within c.clear.ensures) c.if-table-size.true,
    )

pub returns : goal.returns
returns c =
    let w = c.number_states-count.new.work in
    let m = numbered_machine c.count_of-n.result w c.number_states-count.result in (
      m,
      whole_table c.args.widest c.args.set c.args.work.now c.clear-2.new.work c.args.table.now m c.number_states-count.ensures.canonical
          (clear_within c.args.widest c.length_for-m.result c.count_of-n.result c.area_size-area.result c.args.work.now w c.clear-2.new.work c.area_size-area.ensures
          c.count_of-n.ensures (c.length_for-m.ensures.short c.args.widest c.requires.2) c.number_states-count.ensures.within c.clear-2.ensures) _ c.if-table-size.false c.write_table.ensures,
    )
