pub mod Placing
pub mod Owners
