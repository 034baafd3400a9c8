pub mod ObjectLaws
pub mod StoredLaws
pub mod Flushing
pub mod OneLine
