pub mod Naming
pub mod Still
