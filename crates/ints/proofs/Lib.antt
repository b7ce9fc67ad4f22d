pub mod Sums
pub mod Quotients
pub mod Order
pub mod Widths
pub mod Wrapping
pub mod Cases
