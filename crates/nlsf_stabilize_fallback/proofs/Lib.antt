pub mod Downward
pub mod Sinking
pub mod Upward
