pub mod Turns
pub mod Searches
pub mod Stops
pub mod Loads
pub mod Uninstalls
pub mod BusDrivers
