-- What each step of the builder leaves.
use Rattle.std.specs.Prelude.{List, [], ◌∷◌, ℕ, Result}
use Rattle.layout.specs.declared.Refused.{Refused}
use Rattle.layout.specs.Write.{room_row, WrittenBy}
use Rattle.machines.specs.Machine.{Machine}
use Rattle.machines.specs.Canonical.{Canonical}
use Rattle.meaning.specs.declared.LimitSet.{LimitSet}
use Rattle.meaning.specs.Sets.{KeptBy}
use Rattle.table.specs.Bytes.{bytes_of, size_of}
use Rattle.classes.specs.Area.{Within}
use Rattle.numbering.specs.Numbered.{numbered_machine}
use Rattle.builder.specs.Rows.{Writable}
use Rattle.builder.specs.Build.{Cleared}

-- the work area holds the canonical machine of the set
pub record Held (s : LimitSet) (n : ℕ) (w w' : List ℕ) (count : ℕ) : Type 0 where
  pub canonical : Canonical (numbered_machine n w' count) (KeptBy s)
  pub writable : Writable n w' count
  pub within : Within n w w'

-- the whole, for a set that has been read and a work area that is long enough
pub record BuildsTable (widest : ℕ) (s : LimitSet) (work work' table table' : List ℕ) (r : Result ℕ Refused) (m : Machine) : Type 0 where
  pub canonical : Canonical m (KeptBy s)
  pub written : WrittenBy (room_row table (size_of m.states) ∷ []) (size_of m.states) (bytes_of m) table table' r
  pub cleared : Cleared widest work work'
