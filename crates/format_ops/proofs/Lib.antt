mod CrashLaws
mod Steps
pub mod Course
