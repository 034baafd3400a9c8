pub mod Follow
pub mod InTurn
