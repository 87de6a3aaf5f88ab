-- RULES, The guard: "A guard is a small record by value: the number of a state; whether it is lost; the last 15 outcomes, as truth values, the oldest first; and how many outcomes it was told, a number of 64 bits. It goes into a call and comes out beside the answer".
use Rattle.std.specs.Prelude.{◌≡◌, Bool, true, false, cond, List, [], ◌∷◌, ◌++◌, ℕ, ◌+◌, leb, ltb, length, drop, replicate, ⊤, Result, Ok, Err}
use Rattle.std.proofs.Math.Option.{Option, none, some}
use Rattle.layout.specs.declared.Refused.{Refused}
use Rattle.layout.specs.Refused.{says}
use Rattle.table.specs.Shared.{Row, row, Tested, passed, refused, first, outcome, Machine}
use Rattle.table.specs.Bytes.{machine_of}
use Rattle.table.specs.Rows.{table_rows, look_rows}
use Rattle.guard.specs.declared.Guard.{Guard}
use Rattle.guard.specs.declared.Answer.{Answer}
use Rattle.guard.specs.declared.Answer.TheVariants.{Normal, Panic, Lost}

-- how many outcomes a guard holds. That it is one less than the longest window is said where limits are known, in `carry`.
abbrev pub held : ℕ
held = 15

-- the largest count
abbrev pub most_told : ℕ
most_told = 18446744073709551615

-- a guard that isn't lost, in state s, with the outcomes that it holds and its count
abbrev pub standing : (s : ℕ) → List Bool → (count : ℕ) → Guard
standing s os n = record { state = s; lost = false; outcomes = os; count = n }

-- "A guard with nothing told isn't lost, is in state 0, holds 15 hits and has the count 0."
abbrev pub fresh : Guard
fresh = standing 0 (replicate held true) 0

-- RULES, What each entry tests, start: "as the table check, the whole table". The guard is the same, refused or not.
pub record StartedAs (b : List ℕ) (r : Result ⊤ Refused) (g : Guard) : Type 0 where
  pub refusal : says r ≡ first (table_rows b)
  pub guard : g ≡ fresh

-- RULES, The guard: "Ask, before a job, answers lost if the guard is lost, else panic if its state allows no miss, else normal. It changes nothing." What an answer that isn't a refusal says of a guard, by where a miss leads from its state.
abbrev pub StandingBy : Option ℕ → Guard → Result Answer Refused → Type 0
StandingBy miss g (Ok Normal) = (g.lost ≡ false) × ((t : ℕ) × (miss ≡ some t))
StandingBy miss g (Ok Panic) = (g.lost ≡ false) × (miss ≡ none)
StandingBy miss g (Ok Lost) = g.lost ≡ true
StandingBy miss g (Err r) = Unit {0}

abbrev pub Standing : Machine → Guard → Result Answer Refused → Type 0
Standing m g = StandingBy (m.next g.state false) g

-- the answer of an ask, and the guard then. "A lost guard is tested like any other."
pub record AskedAs (b : List ℕ) (g : Guard) (r : Result Answer Refused) (g' : Guard) : Type 0 where
  pub refusal : says r ≡ first (look_rows b g.state)
  pub answer : Standing (machine_of b) g r
  pub guard : g' ≡ g

-- what is held of the outcomes held so far and of new ones after them: as many as before, the newest
abbrev pub latest : (os new : List Bool) → List Bool
latest os new = drop (length new) (os ++ new)

-- RULES, The guard: "A guard that isn't lost goes to the next state and holds the outcome as its newest, without its oldest. Told a miss in panic, it becomes lost and keeps state and outcomes as they were before that miss. A lost guard keeps them too, whatever it is told, and goes on counting".
abbrev pub lost_in : (s : ℕ) → List Bool → (count : ℕ) → Guard
lost_in s os n = record { state = s; lost = true; outcomes = os; count = n }

abbrev pub moved : Option ℕ → Guard → Bool → Guard
moved none g o = lost_in g.state g.outcomes (g.count + 1)
moved (some t) g o = standing t (latest g.outcomes (o ∷ [])) (g.count + 1)

abbrev pub after_by : Option ℕ → Guard → Bool → Guard
after_by move g o = cond g.lost (lost_in g.state g.outcomes (g.count + 1)) (moved move g o)

abbrev pub after : Machine → Guard → Bool → Guard
after m g o = after_by (m.next g.state o) g o

-- RULES, What each entry tests, tell: "as ask; then 13 with 0; then 17"
abbrev pub tell_rows : List ℕ → Guard → ℕ → List Row
tell_rows b g byte = look_rows b g.state ++ (row 13 (ltb 1 byte) 0 ∷ row 17 (leb most_told g.count) 0 ∷ [])

-- the guard after a tell: moved by the outcome, or as it was where the tell is refused
abbrev pub told_when : Tested → Machine → Guard → Bool → Guard
told_when passed m g o = after m g o
told_when (refused number at) m g o = g

abbrev pub told_of : List ℕ → Guard → ℕ → Guard
told_of b g byte = told_when (first (tell_rows b g byte)) (machine_of b) g (outcome byte)

-- the answer of a tell, and the guard then
pub record ToldAs (b : List ℕ) (g : Guard) (byte : ℕ) (r : Result ⊤ Refused) (g' : Guard) : Type 0 where
  pub refusal : says r ≡ first (tell_rows b g byte)
  pub guard : g' ≡ told_of b g byte
