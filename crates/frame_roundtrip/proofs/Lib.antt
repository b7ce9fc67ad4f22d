pub mod Alike
pub mod Overlaid
pub mod Allowed
pub mod Behind
pub mod Sent
pub mod Read
pub mod Theorems
pub mod Cases
