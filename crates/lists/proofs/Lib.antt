pub mod EveryLaws
pub mod Rows
pub mod Parts
pub mod AtMostLaws
pub mod All
