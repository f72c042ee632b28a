pub mod QuestionLaws
pub mod WalkLaws
pub mod BoundLaws
pub mod MeaningLaws
