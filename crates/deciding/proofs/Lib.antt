pub mod Both
pub mod Choice
pub mod Decides
