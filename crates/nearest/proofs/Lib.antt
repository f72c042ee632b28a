pub mod WrittenLaws
pub mod TableLaws
pub mod StepLaws
