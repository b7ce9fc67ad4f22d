pub mod Every
pub mod AtMost
pub mod Inner
