pub mod Pointing
pub mod Target
pub mod Ready
pub mod Intervals
pub mod End
pub mod Index
