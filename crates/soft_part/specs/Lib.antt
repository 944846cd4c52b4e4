pub mod Answers
pub mod Soft
