pub mod Placing
pub mod Digits
pub mod Window
