-- RULES, What each entry tests, reading a set: "1, 2, 3, 4; then limit after limit, each for 5, 6 and 7; then 21", and else "the set".
use Rattle.std.specs.Prelude.{◌≡◌, List, ℕ, Result, Ok, Err}
use Rattle.layout.specs.declared.Refused.{Refused}
use Rattle.layout.specs.Refusal.{Tested, passed, refused, first}
use Rattle.layout.specs.Refused.{says}
use Rattle.meaning.specs.declared.LimitSet.{LimitSet}
use Rattle.sets.specs.Bytes.{set_of, empty_set}
use Rattle.sets.specs.Rows.{set_rows}

-- RULES, What a refusal leaves: "a refused reading fills it with a set of count 0 and zeros"
abbrev pub set_in : Result LimitSet Refused → LimitSet
set_in (Ok s) = s
set_in (Err e) = empty_set

abbrev pub set_when : Tested → List ℕ → LimitSet
set_when passed b = set_of b
set_when (refused n v) b = empty_set

pub record ReadAs (widest : ℕ) (b : List ℕ) (r : Result LimitSet Refused) : Type 0 where
  pub answer : says r ≡ first (set_rows widest b)
  pub set : set_in r ≡ set_when (first (set_rows widest b)) b
