pub mod Levels
pub mod CommandPaths
pub mod RomLoad
pub mod Dump
pub mod Machine
pub mod Boot
pub mod BootLines
pub mod Commands
