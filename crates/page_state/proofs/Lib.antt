pub mod PageLaws
pub mod SpanLaws
pub mod Steps
pub mod Pieces
pub mod Counted
pub mod NewBytes
pub mod NewStores
pub mod NewPages
pub mod NewFlushes
pub mod Contents
pub mod Lines
pub mod Told
pub mod Pages
pub mod Changes
pub mod Releases
mod Unlinked
mod Cut
