pub mod Growth
pub mod Ran
pub mod Told
