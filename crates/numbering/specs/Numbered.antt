-- RULES, The table of a set: "the states are numbered in the order of their first patterns". The third region holds each class's number and one, 0 for none; the fourth the classes in the order of their numbers.
use Rattle.std.specs.Prelude.{◌≡◌, Bool, true, false, cond, List, ℕ, ◌+◌, ◌-◌, ◌*◌, ◌^◌, ◌≤◌, ◌<◌, get_or}
use Rattle.std.proofs.Math.Option.{Option, none, some}
use Rattle.machines.specs.Machine.{Machine, WellMade}
use Rattle.machines.specs.Numbering.{NumberedAtSight, StandsFor}
use Rattle.meaning.specs.declared.LimitSet.{LimitSet}
use Rattle.history.specs.Machine.{history_machine}
use Rattle.classes.specs.Area.{next_class, may_at}

-- with n histories: the number of class c and one, 0 where it has none
abbrev pub number_at : (n : ℕ) → List ℕ → ℕ → ℕ
number_at n w c = get_or w (2 * n + c) 0

-- and the class with number j
abbrev pub class_of : (n : ℕ) → List ℕ → ℕ → ℕ
class_of n w j = get_or w (3 * n + j) 0

-- the number of the class that outcome o leads to from history h, of n histories, and one
abbrev pub number_after : List ℕ → (n h : ℕ) → Bool → ℕ
number_after w n h o = number_at n w (next_class w n h o)

abbrev pub move_of : List ℕ → (n h : ℕ) → Bool → Option ℕ
move_of w n h true = some (number_after w n h true - 1)
move_of w n h false = cond (may_at w h) (some (number_after w n h false - 1)) none

-- the machine that the work area writes
abbrev pub numbered_machine : (n : ℕ) → List ℕ → (count : ℕ) → Machine
numbered_machine n w count = record { states = count; start = 0; next = λ j o. move_of w n (class_of n w j) o }

pub record Numbered (s : LimitSet) (m : ℕ) (w : List ℕ) (count : ℕ) : Type 0 where
  pub some_state : 1 ≤ count
  pub no_more : count ≤ 2 ^ m
  pub well_made : WellMade (numbered_machine (2 ^ m) w count)
  pub at_sight : NumberedAtSight (numbered_machine (2 ^ m) w count)
  pub stands : StandsFor (numbered_machine (2 ^ m) w count) (history_machine s m) (class_of (2 ^ m) w)
  -- what the writer of the table reads
  pub histories : (j : ℕ) → j < count → class_of (2 ^ m) w j < 2 ^ m
  pub hits_numbered : (j : ℕ) → j < count → (1 ≤ number_after w (2 ^ m) (class_of (2 ^ m) w j) true) × (number_after w (2 ^ m) (class_of (2 ^ m) w j) true ≤ count)
  pub misses_numbered : (j : ℕ) → j < count → may_at w (class_of (2 ^ m) w j) ≡ true → (1 ≤ number_after w (2 ^ m) (class_of (2 ^ m) w j) false) × (number_after w (2 ^ m) (class_of (2 ^ m) w j) false ≤ count)
