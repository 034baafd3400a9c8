pub mod States
pub mod Dentry
pub mod Laws
