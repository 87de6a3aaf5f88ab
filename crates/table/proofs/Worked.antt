-- The table of AnyHit(1,2), whole, as the rules print it: it passes the check, and its bytes are those of its machine. By computing. Assumes nothing.
use mathlib.Core.Path.{◌≡◌, refl}
use mathlib.Core.List.{List, [], ◌∷◌}
use Prim.Native.Nat.{ℕ}
use Rattle.layout.specs.Refusal.{passed, first}
use Rattle.table.specs.Bytes.{machine_of, row_bytes, bytes_of}
use Rattle.table.specs.Rows.{entries_rows, table_rows}

abbrev pub any_hit_1_2 : List ℕ
any_hit_1_2 = 0 ∷ 0 ∷ 0 ∷ 11 ∷ 1 ∷ 0 ∷ 2 ∷ 0 ∷ 1 ∷ 0 ∷ 0 ∷ 255 ∷ 255 ∷ 0 ∷ 0 ∷ []

pub any_hit_1_2_checked : first (table_rows any_hit_1_2) ≡ passed
unfolding first entries_rows
any_hit_1_2_checked = refl

pub any_hit_1_2_bytes : bytes_of (machine_of any_hit_1_2) ≡ any_hit_1_2
unfolding row_bytes
any_hit_1_2_bytes = refl
