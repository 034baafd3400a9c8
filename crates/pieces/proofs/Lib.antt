pub mod JoinedLaws
pub mod ManyLaws
pub mod SplitLaws
