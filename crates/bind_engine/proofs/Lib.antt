pub mod Leaving
pub mod BootRoms
