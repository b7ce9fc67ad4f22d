pub mod ListerText
