pub mod Segment
pub mod GuestMemory
pub mod Laws
pub mod Totals
pub mod Segments
