pub mod Parts
pub mod Changes
pub mod Repairs
pub mod Plans
pub mod Listing
