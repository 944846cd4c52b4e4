pub mod MarkedRecords
pub mod SoundRows
pub mod TakingBack
pub mod Tallies
