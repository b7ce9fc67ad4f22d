pub mod EntryLaws
pub mod Determined
pub mod GridLaws
