pub mod CallLaws
pub mod RunLaws
pub mod StepLaws
