pub mod Headers
pub mod Relocations
pub mod ImageRules
pub mod LaidImage
