pub mod PhaseLaws
pub mod HeadLaws
