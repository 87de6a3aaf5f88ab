-- The texts that the rules print: the three lines of AnyHit(1,2), whose table's bytes they also give, and a refusal's one line. By computing. Assumes nothing.
use mathlib.Core.Path.{◌≡◌, refl}
use Rattle.layout.specs.Refusal.{refused}
use Rattle.machines.specs.Machine.{Machine}
use Rattle.table.specs.Bytes.{machine_of}
use Rattle.table.proofs.Worked.{any_hit_1_2}
use Rattle.printing.specs.Text.{ascii, decimal_in, state_lines, table_text, text_when}

pub any_hit_1_2_text : table_text (machine_of any_hit_1_2) ≡ ascii "states 2\n0 1 0\n1 - 0\n"
unfolding decimal_in state_lines
any_hit_1_2_text = refl

pub refusal_text_lem : (m : Machine) → text_when (refused 3 0) m ≡ ascii "refused 3 at 0\n"
unfolding decimal_in
refusal_text_lem m = refl
