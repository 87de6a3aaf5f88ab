-- How a search numbers states at first sight: breadth first, a miss before a hit. In a table read row by row, each row the miss and then the hit, every number but 0 appears first in a row before its own, and the numbers appear in order.
use Rattle.std.specs.Prelude.{◌≡◌, Bool, ℕ, ◌+◌, ◌*◌, ◌≤◌, ◌<◌}
use Rattle.std.proofs.Math.Option.{none, some}
use Rattle.patterns.specs.Outcome.{bit}
use Rattle.machines.specs.Machine.{Machine}
use Rattle.machines.specs.Same.{Same}

-- the place of an entry in the table
abbrev pub place : ℕ → Bool → ℕ
place s o = 2 * s + bit o

-- state t appears first in row s under outcome o
pub record FirstSeen (m : Machine) (t s : ℕ) (o : Bool) : Type 0 where
  pub row_before : s < t
  pub here : m.next s o ≡ some t
  pub none_before : (r : ℕ) (x : Bool) → r < m.states → m.next r x ≡ some t → place s o ≤ place r x

pub record NumberedAtSight (m : Machine) : Type 0 where
  pub starts_at_0 : m.start ≡ 0
  pub seen : (t : ℕ) → 1 ≤ t → t < m.states → (s : ℕ) × (o : Bool) × FirstSeen m t s o
  pub in_order : (t u s r : ℕ) (o x : Bool) → 1 ≤ t → t < u → u < m.states → FirstSeen m t s o → FirstSeen m u r x → place s o < place r x

-- m has, for each of its states, a state of another machine that stands for it: `of s`
pub record StandsFor (m source : Machine) (of : ℕ → ℕ) : Type 0 where
  pub start : Same source (of m.start) source.start
  pub blocked : (s : ℕ) (o : Bool) → s < m.states → m.next s o ≡ none → source.next (of s) o ≡ none
  pub moves : (s t : ℕ) (o : Bool) → s < m.states → m.next s o ≡ some t → (u : ℕ) × (source.next (of s) o ≡ some u) × Same source (of t) u
  pub apart : (s t : ℕ) → s < m.states → t < m.states → Same source (of s) (of t) → s ≡ t
