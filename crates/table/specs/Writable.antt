-- The machines that a table's bytes can write. RULES: "The start is state 0", "n, how many states there are, 1 to 32,768", "A hit is allowed in every state".
use Rattle.std.specs.Prelude.{◌≡◌, true, ℕ, ◌≤◌, ◌<◌}
use Rattle.std.proofs.Math.Option.{some}
use Rattle.machines.specs.Machine.{Machine, WellMade}
use Rattle.table.specs.Rows.{most_states}

pub record Writable (m : Machine) : Type 0 where
  pub well_made : WellMade m
  pub starts_at_0 : m.start ≡ 0
  pub most : m.states ≤ most_states
  pub hit_allowed : (s : ℕ) → s < m.states → (t : ℕ) × (m.next s true ≡ some t)
