pub mod LengthLaws
pub mod Shift
