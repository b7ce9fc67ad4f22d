pub mod Agree
pub mod KindLaws
