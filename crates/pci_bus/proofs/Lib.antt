pub mod Ways
pub mod Making
