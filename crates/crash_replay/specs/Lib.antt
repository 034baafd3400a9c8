pub mod Place
pub mod Replay
pub mod Tally
pub mod Work
pub mod WorkLeft
