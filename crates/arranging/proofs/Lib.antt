pub mod BothLaws
pub mod OrderLaws
