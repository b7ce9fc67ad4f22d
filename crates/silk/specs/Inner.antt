pub mod Indices
pub mod Pulses
