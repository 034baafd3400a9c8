pub mod Lines
pub mod Rounds
pub mod Sorted
pub mod Words
pub mod Zeros
