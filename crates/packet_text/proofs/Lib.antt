pub mod Cases
mod AnswerLaws
pub mod Longer
