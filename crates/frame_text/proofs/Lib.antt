pub mod EightBits
