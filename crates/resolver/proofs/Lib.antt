pub mod StepLaws
pub mod CountLaws
pub mod StoredLaws
pub mod ResolveLaws
