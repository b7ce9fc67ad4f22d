pub mod Stowing
