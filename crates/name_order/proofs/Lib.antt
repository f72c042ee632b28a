pub mod MergeLaws
pub mod SortLaws
pub mod TurnLaws
pub mod RunLaws
