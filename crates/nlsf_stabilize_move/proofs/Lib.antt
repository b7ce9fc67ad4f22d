pub mod MeetLaws
pub mod MoveLaws
