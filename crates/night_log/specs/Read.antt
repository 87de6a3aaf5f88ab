-- RULES, What each entry tests: opening a log, "15, 16", and else "place 0"; a call of the reader, "15, 16", and else "the outcome at its place, and the next place; past the last outcome end, and the place as it was".
use Rattle.std.specs.Prelude.{◌≡◌, Bool, List, ℕ, ◌+◌, ◌≤◌, ◌<◌, length, Option, Some, None, Result, Ok, Err, ⊤}
use Rattle.layout.specs.declared.Refused.{Refused}
use Rattle.layout.specs.Refusal.{first}
use Rattle.layout.specs.Refused.{says}
use Rattle.night_log.specs.Bytes.{outcome_at, outcomes_of}
use Rattle.night_log.specs.Rows.{log_rows}

abbrev pub OpenedAs : List ℕ → Result ⊤ Refused → Type 0
OpenedAs b r = says r ≡ first (log_rows b)

-- outcome i of the pattern is o, and the place after it is the next
pub record Handed (p : List Bool) (i : ℕ) (o : Bool) (next : ℕ) : Type 0 where
  pub there : i < length p
  pub outcome : outcome_at p i ≡ o
  pub moved : next ≡ i + 1

-- past the last outcome the place stays
pub record Ended (p : List Bool) (i next : ℕ) : Type 0 where
  pub past : length p ≤ i
  pub stays : next ≡ i

-- what an answer at place i says of the pattern, and the place afterwards
abbrev pub HandsOut : List Bool → (i : ℕ) → Result (Option Bool) Refused → (next : ℕ) → Type 0
HandsOut p i (Ok (Some o)) next = Handed p i o next
HandsOut p i (Ok None) next = Ended p i next
HandsOut p i (Err e) next = next ≡ i

-- a call at a place, and the place that it leaves
pub record ReadAs (b : List ℕ) (place : ℕ) (r : Result (Option Bool) Refused) (place' : ℕ) : Type 0 where
  pub refusal : says r ≡ first (log_rows b)
  pub hands_out : HandsOut (outcomes_of b) place r place'
