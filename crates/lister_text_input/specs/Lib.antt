pub mod ListerInput
