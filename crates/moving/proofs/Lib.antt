pub mod ForthLaws
pub mod GlassLaws
pub mod LinkLaws
pub mod FullLaws
pub mod ReadBackLaws
