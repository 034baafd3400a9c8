pub mod DentryLaws
pub mod Events
pub mod Stored
pub mod Lines
pub mod Lent
