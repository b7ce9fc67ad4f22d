pub mod Parts
pub mod Wrap
