-- The table built from a set, and the room that a set is given, by an edition: the library's or the printing program's, which differ in the longest window.
use Rattle.std.specs.Prelude.{◌≡◌, List, ℕ, ◌-◌, ◌^◌, ◌≤◌, length, take, Ok}
use Rattle.layout.specs.Refusal.{passed, first}
use Rattle.meaning.specs.Longest.{longest}
use Rattle.sets.specs.Rows.{set_rows}
use Rattle.table.specs.Bytes.{size_of}
use Rattle.classes.specs.Area.{area_size}
use Rattle.builder.specs.Build.{BuiltAs}

-- b is what the builder of an edition wrote for the set's bytes: as many bytes of the buffer as it returned
pub record TableOf (set b : List ℕ) : Type 0 where
  pub widest : ℕ
  pub edition : widest ≤ longest
  pub work : List ℕ
  pub work' : List ℕ
  pub table : List ℕ
  pub table' : List ℕ
  pub size : ℕ
  pub built : BuiltAs widest set work work' table table' (Ok size)
  pub bytes : b ≡ take size table'

-- the set is accepted, the work area has at least the entries of the edition, and the buffer is long enough for every table of the edition: one state a history
pub record GivenRoom (widest : ℕ) (set work table : List ℕ) : Type 0 where
  pub accepted : first (set_rows widest set) ≡ passed
  pub area : area_size widest ≤ length work
  pub room : size_of (2 ^ (widest - 1)) ≤ length table
