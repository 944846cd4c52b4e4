pub mod Lists
pub mod LiveHandles
pub mod Slots
pub mod Records
pub mod Removable
pub mod BusChildren
pub mod BusStarts
