-- What those who see only this crate may say of refusals, outcomes and machines.
pub use Rattle.layout.specs.Refusal.{Row, row, Tested, passed, refused}
unfoldable pub use Rattle.layout.specs.Refusal.{first}
pub use Rattle.patterns.specs.Outcome.{outcome, outcomes}
pub use Rattle.machines.specs.Machine.{Machine, WellMade, onward, walk, Can, Walks}
