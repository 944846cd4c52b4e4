pub mod BoardLemmas
pub mod CommandLemmas
pub mod DriverLemmas
