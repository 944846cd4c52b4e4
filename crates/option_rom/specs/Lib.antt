pub mod RomGrammar
pub mod RomRanges
pub mod RomWalk
pub mod RomLayout
pub mod RomRead
