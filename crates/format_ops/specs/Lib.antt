pub mod Outcome
pub mod Crashes
pub mod Tables
pub mod Making
