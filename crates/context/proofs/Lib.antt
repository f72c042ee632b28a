pub mod PhaseLaws
pub mod TableLaws
pub mod SeenLaws
