pub mod Sheet
pub mod Rows
pub mod Directory
pub mod Probabilities
pub mod Books
pub mod Weights
pub mod Statement
pub mod Inner
