pub mod WordLaws
pub mod CodeLaws
pub mod MeaningLaws
