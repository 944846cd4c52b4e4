pub mod DevicePath
pub mod PathText
pub mod Steps
pub mod PathNodes
