pub mod InodeLaws
mod Stored
mod Line
