pub mod AnswerLaws
pub mod ChainLaws
