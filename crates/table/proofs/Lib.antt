pub mod QuestionLaws
pub mod ImageLaws
pub mod NumberLaws
pub mod RefusalLaws
