pub mod OnceLaws
pub mod NumberLaws
pub mod MeaningLaws
