pub mod Noting
pub mod StacksLeftOut
pub mod TakingBack
pub mod NewBlocks
pub mod Merged
