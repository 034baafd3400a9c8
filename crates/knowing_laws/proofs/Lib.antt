pub mod Quiet
pub mod Gone
pub mod Pages
pub mod Names
pub mod Cut
pub mod Givings
