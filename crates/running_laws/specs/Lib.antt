pub mod Waits
pub mod Steps
pub mod Crashes
pub mod Numbers
