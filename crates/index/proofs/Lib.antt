pub mod SearchLaws
pub mod IndexLaws
pub mod AlikeLaws
pub mod ReportLaws
pub mod TableLaws
