pub mod StepLaws
pub mod HeadLaws
pub mod RealLaws
pub mod WholeLaws
