pub mod DecimalLaws
pub mod Put
