pub mod States
pub mod Inode
pub mod Laws
pub mod Unused
pub mod Covered
