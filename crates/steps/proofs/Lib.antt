pub mod DoubleLaws
pub mod StepLaws
pub mod SignLaws
pub mod SizeLaws
pub mod RangeLaws
pub mod OrderLaws
