pub mod RuleLaws
pub mod SearchLaws
pub mod Entries
