mod Steps
mod Going
mod Carrying
mod Pages
mod Spans
mod Growth
mod Cuts
mod TruncatingPlans
pub mod Truncating
mod WritingPlans
pub mod Writing
mod ReadBytes
