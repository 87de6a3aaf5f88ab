pub mod Text
pub mod Cut
pub mod Put
pub mod Longest
pub mod Print
