pub mod FrameLines
pub mod Inner
