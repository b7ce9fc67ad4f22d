pub mod Record
pub mod IndexSyntax
pub mod PulseSyntax
pub mod FrameCalls
pub mod IndexWriting
pub mod PulseWriting
pub mod Inner
