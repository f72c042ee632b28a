pub mod MeaningLaws
pub mod OrderLaws
pub mod AnswerLaws
pub mod AgainLaws
