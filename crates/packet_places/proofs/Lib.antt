pub mod SpannedLaws
pub mod ByteLaws
pub mod PlaceLaws
pub mod TurnLaws
