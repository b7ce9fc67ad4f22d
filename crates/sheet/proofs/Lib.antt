pub mod DirectoryLaws
pub mod SheetRule
pub mod Places
pub mod Families
pub mod RowLaws
pub mod BooksLaws
pub mod WeightsLaws
