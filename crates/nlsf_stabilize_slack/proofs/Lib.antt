pub mod HeldLaws
pub mod SlackLaws
