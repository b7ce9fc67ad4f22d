pub mod LineLaws
pub mod PrintedLaws
