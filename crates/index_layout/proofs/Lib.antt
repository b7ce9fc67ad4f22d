pub mod FilterSizes
