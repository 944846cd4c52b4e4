pub mod Log
pub mod AtMarks
pub mod Sections
