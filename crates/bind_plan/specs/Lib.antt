pub mod HandleSet
pub mod Unmarked
