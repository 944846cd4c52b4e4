pub mod Sizes
pub mod Columns
pub mod Spelling
pub mod NaturalIndex
