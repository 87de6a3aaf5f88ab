-- RULES, Covers, and What each entry tests, comparison: "as reading a set, for the first set and then for the second; a refusal says which of them, 1 or 2", and else "covers, with a pattern of length 0; or the first pattern between the sets".
use Rattle.std.specs.Prelude.{◌≡◌, Bool, List, [], ◌++◌, map, ℕ, ◌-◌, length, replicate, Option, None, Some, Result, Ok, Err}
use Rattle.layout.specs.declared.Refused.{Refused}
use Rattle.layout.specs.Refused.{number_of, beside}
use Rattle.layout.specs.Refusal.{Tested, passed, refused, first}
use Rattle.patterns.specs.Outcome.{bit}
use Rattle.meaning.specs.declared.LimitSet.{LimitSet}
use Rattle.meaning.specs.Covers as covers
use Rattle.sets.specs.Bytes.{set_of}
use Rattle.sets.specs.Rows.{set_rows}
use Rattle.compare.specs.declared.Pattern.{Pattern}
use Rattle.compare.specs.declared.RefusedSet.{RefusedSet}
use Rattle.compare.specs.declared.RefusedSet.TheVariants.{First, Second}

-- a pattern of at most 16 outcomes as it is returned
abbrev pub packed : List Bool → Pattern
packed p = record { length = length p; outcomes = map bit p ++ replicate (16 - length p) 0 }

-- the first set is tested, then the second; which of them is refused, by what number, and what else is returned
pub data BothTested : Type 0 where
  both_passed : BothTested
  one_refused : (which number at : ℕ) → BothTested

abbrev pub in_turn : Tested → Tested → BothTested
in_turn (refused n v) t = one_refused 1 n v
in_turn passed (refused n v) = one_refused 2 n v
in_turn passed passed = both_passed

-- the set that is refused, and why
abbrev pub which_of : RefusedSet → ℕ
which_of (First why) = 1
which_of (Second why) = 2

abbrev pub why_of : RefusedSet → Refused
why_of (First why) = why
why_of (Second why) = why

abbrev pub says : Result (Option Pattern) RefusedSet → BothTested
says (Ok p) = both_passed
says (Err e) = one_refused (which_of e) (number_of (why_of e)) (beside (why_of e))

-- "a pattern of length 0" where there is none
abbrev pub pattern_in : Result (Option Pattern) RefusedSet → Pattern
pattern_in (Ok (Some p)) = p
pattern_in (Ok None) = packed []
pattern_in (Err e) = packed []

-- what is said of two sets that have been read: the first covers the second, or the first pattern between them
abbrev pub Compares : LimitSet → LimitSet → Option Pattern → Type 0
Compares a b None = covers.Covers a b
Compares a b (Some p) = (q : List Bool) × covers.FirstBetween a b q × (p ≡ packed q)

abbrev pub Answers : LimitSet → LimitSet → Result (Option Pattern) RefusedSet → Type 0
Answers a b (Ok p) = Compares a b p
Answers a b (Err e) = Unit {0}

pub record ComparedAs (widest : ℕ) (first_set second_set : List ℕ) (r : Result (Option Pattern) RefusedSet) : Type 0 where
  pub refusal : says r ≡ in_turn (first (set_rows widest first_set)) (first (set_rows widest second_set))
  pub answer : Answers (set_of first_set) (set_of second_set) r
