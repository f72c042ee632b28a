pub mod StepLaws
pub mod PhaseLaws
pub mod MoveLaws
pub mod WordLaws
pub mod ReadyLaws
pub mod NextLaws
