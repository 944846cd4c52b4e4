pub mod Services
pub mod Tables
pub mod Arguments
pub mod Placed
