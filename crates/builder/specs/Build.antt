-- RULES, What each entry tests, builder: "as reading a set; then 8; then 9 with 7+4n", and else "writes the table and returns 7+4n". The table is the bytes of the canonical machine for exactly the patterns that the set keeps.
use Rattle.std.specs.Prelude.{◌≡◌, List, [], ◌∷◌, ◌++◌, ℕ, ◌≤◌, ◌<◌, ltb, length, get_or, Result}
use Rattle.layout.specs.Refusal.{Row, row, Tested, passed, refused, first}
use Rattle.layout.specs.declared.Refused.{Refused}
use Rattle.layout.specs.Write.{room_row, WrittenBy}
use Rattle.machines.specs.Machine.{Machine}
use Rattle.machines.specs.Canonical.{Canonical}
use Rattle.meaning.specs.Sets.{KeptBy}
use Rattle.sets.specs.Bytes.{set_of}
use Rattle.sets.specs.Rows.{set_rows}
use Rattle.table.specs.Bytes.{bytes_of, size_of}
use Rattle.classes.specs.Area.{area_size}

-- RULES, Refusals, 8: "the work area has less than 131,072 entries of 16 bits; in the printing program, less than 8,192". Every row and promise takes the longest window as a variable: one builder serves both.
abbrev pub area_row : (widest : ℕ) → List ℕ → Row
area_row widest work = row 8 (ltb (length work) (area_size widest)) 0

-- what is tested before the work area is used
abbrev pub early_rows : (widest : ℕ) → (set work : List ℕ) → List Row
early_rows widest set work = set_rows widest set ++ area_row widest work ∷ []

-- and then 9 with 7+4n
abbrev pub build_rows : (widest : ℕ) → (set work table : List ℕ) → (size : ℕ) → List Row
build_rows widest set work table size = early_rows widest set work ++ room_row table size ∷ []

-- RULES, What a refusal leaves: "A builder that is past 8, refused by none of 1 to 7, 21 and 8, gives the first 131,072 entries of the work area back as zeros"; "nothing is ever written to the entries of the work area after those 131,072". In the printing program they are 8,192.
pub record ClearedTo (size : ℕ) (w w' : List ℕ) : Type 0 where
  pub length_stays : length w' ≡ length w
  pub zero : (k : ℕ) → k < size → get_or w' k 0 ≡ 0
  pub beyond : (k : ℕ) → size ≤ k → get_or w' k 0 ≡ get_or w k 0

abbrev pub Cleared : (widest : ℕ) → (w w' : List ℕ) → Type 0
Cleared widest w w' = ClearedTo (area_size widest) w w'

abbrev pub WorkAfter : (widest : ℕ) → Tested → (w w' : List ℕ) → Type 0
WorkAfter widest passed w w' = Cleared widest w w'
WorkAfter widest (refused number at) w w' = w' ≡ w

-- the result, by a machine that is the canonical one of the set where the builder gets past 8; the table is its bytes
pub record BuiltWith (widest : ℕ) (set work work' table table' : List ℕ) (r : Result ℕ Refused) (m : Machine) : Type 0 where
  pub canonical : first (early_rows widest set work) ≡ passed → Canonical m (KeptBy (set_of set))
  pub written : WrittenBy (build_rows widest set work table (size_of m.states)) (size_of m.states) (bytes_of m) table table' r
  pub work_after : WorkAfter widest (first (early_rows widest set work)) work work'

abbrev pub BuiltAs : (widest : ℕ) → (set work work' table table' : List ℕ) → Result ℕ Refused → Type 0
BuiltAs widest set work work' table table' r = (m : Machine) × BuiltWith widest set work work' table table' r m
