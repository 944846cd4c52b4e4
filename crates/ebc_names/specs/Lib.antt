pub mod Names
pub mod Mnemonics
