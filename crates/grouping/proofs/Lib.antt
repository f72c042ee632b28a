pub mod OrderLaws
pub mod ScanLaws
pub mod ChoiceLaws
pub mod FillLaws
