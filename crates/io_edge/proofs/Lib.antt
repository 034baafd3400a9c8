pub mod BytesLaws
pub mod Copied
