pub mod Search
pub mod Shifted
