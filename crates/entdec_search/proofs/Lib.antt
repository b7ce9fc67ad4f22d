pub mod Coming
pub mod TwoEntries
