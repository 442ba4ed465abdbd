pub mod ExtentLaws
pub mod ValueLaws
pub mod RowLaws
