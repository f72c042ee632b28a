pub mod ChangeLaws
pub mod GlassLaws
pub mod RowLaws
