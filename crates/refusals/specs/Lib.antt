pub mod First
pub mod Inner
