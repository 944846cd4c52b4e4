pub mod Keeps
pub mod Noted
pub mod RootHandles
