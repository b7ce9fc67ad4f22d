pub mod StabiliserAnswer
pub mod Inner
