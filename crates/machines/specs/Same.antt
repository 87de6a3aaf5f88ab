-- When two states of a machine are the same: what can be walked from one can be walked from the other.
use Rattle.std.specs.Prelude.{◌↔◌, Bool, List, ℕ, ◌≤◌, length}
use Rattle.machines.specs.Machine.{Machine, Can}

-- in patterns of at most n jobs
abbrev pub SameTo : Machine → (n a b : ℕ) → Type 0
SameTo m n a b = (p : List Bool) → length p ≤ n → Can m a p ↔ Can m b p

abbrev pub Same : Machine → (a b : ℕ) → Type 0
Same m a b = (p : List Bool) → Can m a p ↔ Can m b p
