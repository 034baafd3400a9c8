pub mod Inside
pub mod Joined
pub mod Many
pub mod Pieces
