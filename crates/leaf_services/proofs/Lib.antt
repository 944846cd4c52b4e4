pub mod Conditions
pub mod AllowedChanges
pub mod BlockContents
pub mod InstallPairs
pub mod ServiceEnds
pub mod HandleList
pub mod PairReads
pub mod NumbersStored
