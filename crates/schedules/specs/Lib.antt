pub mod Turns
pub mod Entries
pub mod Crashes
pub mod Schedules
pub mod Borders
pub mod Laws
pub mod Taken
