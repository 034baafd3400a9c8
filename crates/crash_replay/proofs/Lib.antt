pub mod Places
pub mod Replays
pub mod Rows
pub mod Tallies
pub mod WorkTexts
pub mod WorkLefts
pub mod WorkRows
pub mod WorkScripts
