-- RULES, What each entry tests, reading a record back, and else: "the guard: in the state where the walk of the outcomes ends, lost as the record says, with its outcomes and its count". What a refusal leaves: "a refused start or reading back with a guard with nothing told".
use Rattle.std.specs.Prelude.{◌≡◌, List, ℕ, Result, Ok, Err}
use Rattle.std.proofs.Math.Option.{Option, none, some}
use Rattle.layout.specs.declared.Refused.{Refused}
use Rattle.layout.specs.Refusal.{Tested, passed, refused, first}
use Rattle.layout.specs.Refused.{says}
use Rattle.patterns.specs.Outcome.{outcome}
use Rattle.guard.specs.declared.Guard.{Guard}
use Rattle.guard.specs.Guard.{fresh}
use Rattle.carry.specs.Bytes.{version_for, many_in, outcomes_in, count_in, lost_byte}
use Rattle.carry.specs.Rows.{led_to, read_rows}

-- the guard of a reading back, one with nothing told where it is refused
abbrev pub guard_in : Result Guard Refused → Guard
guard_in (Ok g) = g
guard_in (Err r) = fresh

-- the guard of a record of h outcomes, in the state where they lead; a guard holds n
abbrev pub guard_at : Option ℕ → (n h : ℕ) → List ℕ → Guard
guard_at none n h r = fresh
guard_at (some s) n h r = record { state = s; lost = outcome (lost_byte r); outcomes = outcomes_in n h r; count = count_in r }

abbrev pub guard_when : Tested → (n h : ℕ) → (r table : List ℕ) → Guard
guard_when passed n h r b = guard_at (led_to n h r b) n h r
guard_when (refused number at) n h r b = fresh

-- read as a record of version v, with h outcomes
pub record ReadInVersion (widest n v h : ℕ) (r b : List ℕ) (back : Result Guard Refused) : Type 0 where
  pub refusal : says back ≡ first (read_rows widest n v h r b)
  pub guard : guard_in back ≡ guard_when (first (read_rows widest n v h r b)) n h r b

-- and as the version that it says
abbrev pub ReadBackAs : (widest n : ℕ) → (r b : List ℕ) → Result Guard Refused → Type 0
ReadBackAs widest n r b = ReadInVersion widest n (version_for r) (many_in n r) r b
