pub mod States
pub mod Spans
pub mod Page
pub mod Events
pub mod Laws
