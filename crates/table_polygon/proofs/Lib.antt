pub mod TableLaws
pub mod MeaningLaws
