pub mod Turns
pub mod Window
