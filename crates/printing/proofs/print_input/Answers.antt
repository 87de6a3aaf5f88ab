-- `printing::print_input`: what `print_set` prints of the bytes that were read, in buffers that are large enough. Assumes nothing.
use Rattle.printing.proofs.Enough.{printed_whole}
use Rattle.printing.proofs.print_input.Goals as goal

pub returns : goal.returns
returns c =
    printed_whole _ _ _ _ _ _ _ _ c.requires.work_room c.requires.table_room c.requires.text_room c.print_set.ensures
