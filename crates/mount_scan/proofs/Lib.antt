mod Lists
mod Frees
mod Facts
mod Places
mod Holding
mod Carried
mod Heads
mod Mounts
pub mod Answered
mod States
mod Repairing
mod Counted
mod Told
mod Written
