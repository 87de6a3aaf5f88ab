pub mod Refusing
pub mod TableOf
pub mod Guarding
pub mod Carrying
pub mod Judging
pub mod Reading
