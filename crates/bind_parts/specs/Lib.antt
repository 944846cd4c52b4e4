pub mod Events
pub mod BusTurns
