pub mod Chain
pub mod Rounds
