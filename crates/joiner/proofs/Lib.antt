pub mod ReadLaws
pub mod OrderLaws
