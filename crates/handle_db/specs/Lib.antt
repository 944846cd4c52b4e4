pub mod Database
pub mod Installing
pub mod Removing
pub mod Undoing
pub mod OwnedInterfaces
pub mod Places
pub mod ProtocolIndex
