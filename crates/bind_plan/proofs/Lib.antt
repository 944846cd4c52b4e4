mod ChildRecords
mod HandleSets
pub mod LeftOut
pub mod NullHandle
pub mod SortedVersions
