pub mod Attr
pub mod Commands
pub mod Guid
pub mod Layout
pub mod Status
