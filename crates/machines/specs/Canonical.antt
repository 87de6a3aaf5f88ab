-- RULES, The table of a set: "Each state has a first pattern, in the order of patterns, that leads to it, and the states are numbered in the order of their first patterns. The start is state 0, since the empty pattern is its first." "No machine that walks exactly these has fewer states."
-- What that asks of a machine for a language, the patterns that it is to walk. That it has the fewest states is then a theorem.
use Rattle.std.specs.Prelude.{◌≡◌, ◌↔◌, Bool, List, ℕ, ◌<◌}
use Rattle.std.proofs.Math.Option.{some}
use Rattle.patterns.specs.Order.{NoLater}
use Rattle.machines.specs.Machine.{Machine, WellMade, walk, Walks}
use Rattle.machines.specs.Same.{Same}

-- p is the first pattern that reaches state s
pub record FirstTo (m : Machine) (s : ℕ) (p : List Bool) : Type 0 where
  pub reaches : walk m m.start p ≡ some s
  pub none_earlier : (q : List Bool) → walk m m.start q ≡ some s → NoLater p q

pub record Canonical (m : Machine) (language : List Bool → Type 0) : Type 0 where
  pub well_made : WellMade m
  pub starts_at_0 : m.start ≡ 0
  pub exact : (p : List Bool) → Walks m p ↔ language p
  pub first : (s : ℕ) → s < m.states → (p : List Bool) × FirstTo m s p
  pub in_order : (s t : ℕ) (p q : List Bool) → s < t → t < m.states → FirstTo m s p → FirstTo m t q → NoLater p q
  pub differ : (a b : ℕ) → a < m.states → b < m.states → Same m a b → a ≡ b

-- two machines with one table: the same states and moves
pub record OneTable (m n : Machine) : Type 0 where
  pub states : m.states ≡ n.states
  pub moves : (s : ℕ) (o : Bool) → s < m.states → m.next s o ≡ n.next s o
