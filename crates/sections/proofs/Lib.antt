pub mod ValuesLaws
