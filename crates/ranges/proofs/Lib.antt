pub mod InRangeLaws
