-- RULES, Refusals: a table of rows, each a number, when it is given, and the value beside it; "the first that holds is given".
use Rattle.std.specs.Prelude.{Bool, cond, List, [], ◌∷◌, ℕ}

pub record Row : Type 0 where
  pub number : ℕ
  pub holds : Bool
  pub at : ℕ

abbrev pub row : ℕ → Bool → ℕ → Row
row number holds at = record { number = number; holds = holds; at = at }

pub data Tested : Type 0 where
  passed : Tested
  refused : (number at : ℕ) → Tested

-- the first row that holds
unfoldable pub first : List Row → Tested
first [] = passed
first (r ∷ rows) = cond r.holds (refused r.number r.at) (first rows)
