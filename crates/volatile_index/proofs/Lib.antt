pub mod EntryLaws
mod FillCounts
mod FillLaws
mod Places
mod Halving
mod Nodes
mod PagesLeft
