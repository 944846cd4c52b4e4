pub mod CountingDown
pub mod Ranges
pub mod RangeLines
pub mod HandleList
