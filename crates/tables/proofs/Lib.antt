pub mod PredictorRow
pub mod Arms
pub mod VectorLaws
