pub mod RealsLaws
pub mod RefusalLaws
pub mod AnswerLaws
pub mod AgainLaws
