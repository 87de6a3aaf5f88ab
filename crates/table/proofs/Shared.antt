-- The laws of rows and of walking for those who see only this crate. Assumes nothing.
pub use Rattle.layout.proofs.Rows.{first_here, first_skip, refused_before, passed_before, passed_first, passed_not_refused}
pub use Rattle.machines.proofs.Walk.{walk_snoc, walk_first, can_dec}
