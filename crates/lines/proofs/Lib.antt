pub mod PutsLaws
pub mod LineLaws
