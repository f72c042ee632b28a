pub mod GraphLaws
pub mod PathLaws
pub mod LowestLaws
pub mod ListLaws
