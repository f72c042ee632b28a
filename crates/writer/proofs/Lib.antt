pub mod AnswerLaws
pub mod AgainLaws
