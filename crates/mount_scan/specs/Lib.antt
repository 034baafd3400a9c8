pub mod Building
pub mod Mounting
pub mod Mounts
pub mod Looking
pub mod Counting
pub mod Reports
