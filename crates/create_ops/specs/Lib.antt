pub mod Making
pub mod Stages
