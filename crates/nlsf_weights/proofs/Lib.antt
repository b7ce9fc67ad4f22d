mod Rising
mod RootLaws
mod RowLaws
