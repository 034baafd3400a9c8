pub mod Calls
pub mod Order
pub mod Others
pub mod Going
pub mod Histories
pub mod Moving
