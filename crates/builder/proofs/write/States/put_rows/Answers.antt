-- `builder::write::States::put_rows`: the rows of the states passed have been stored. Assumes nothing.
use mathlib.Core.Path.{ap₂, ◌∙◌}
use mathlib.Core.List.{◌++◌}
use Prim.Native.Nat.{◌+◌, ◌*◌}
use native.Mathlib.Omega.{arith}
use lib.ListN.{take, drop}
use Rattle.numbering.specs.Numbered.{numbered_machine}
use Rattle.table.specs.Bytes.{pair_bytes}
use Rattle.builder.proofs.Stores.{no_rows, row_more}
use Rattle.builder.proofs.write.States.put_rows.Goals as goal

pub loop-state-init : goal.loop-state-init
loop-state-init c = no_rows _ _

pub loop-state-preserved : goal.loop-state-preserved
loop-state-preserved c =
    let i = c.loop-state.state in
    let a = c.args.self in
    let out = c.loop-state.out in
    c.put_row.ensures
    ∙ ap₂ (λ x y. take (7 + 4 * i) out ++ pair_bytes x (pair_bytes y (drop (7 + 4 * i + 4) out))) c.miss_entry-miss.ensures c.hit_entry-hit.ensures
    ∙ row_more (numbered_machine a.n a.work.now a.count) c.args.out.now out i (omega arith) c.loop-state.invariant
