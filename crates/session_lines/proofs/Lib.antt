pub mod LeftLaws
pub mod TurnLaws
