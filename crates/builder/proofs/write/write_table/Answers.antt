-- `builder::write::write_table`: the head, and then the rows. Assumes nothing.
use mathlib.Core.Path.{ap, ◌∙◌}
use mathlib.Core.List.{◌++◌}
use Prim.Native.Nat.{◌*◌}
use lib.ListN.{take, drop}
use Rattle.table.specs.Bytes.{row_bytes, size_of}
use Rattle.numbering.specs.Numbered.{numbered_machine}
use Rattle.builder.proofs.Stores.{head_and_rows}
use Rattle.builder.proofs.write.write_table.Goals as goal

pub returns : goal.returns
returns c =
    let n = c.args.count in
    let rows = row_bytes (numbered_machine c.args.n c.args.work.now n) 0 n in
    c.put_rows.ensures
    ∙ ap (λ z. take 7 z ++ (rows ++ drop (size_of n) z)) c.put_head.ensures
    ∙ head_and_rows n (4 * n) c.args.out.now rows
