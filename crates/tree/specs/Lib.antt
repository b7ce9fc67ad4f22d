pub mod Asks
pub mod Telling
pub mod Inner
