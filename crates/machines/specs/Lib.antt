pub mod Machine
pub mod Same
pub mod Canonical
pub mod Numbering
