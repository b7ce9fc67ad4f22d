pub mod Fields
pub mod Parts
pub mod Acceptance
pub mod Calls
