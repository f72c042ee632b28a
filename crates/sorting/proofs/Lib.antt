pub mod ShuffleLaws
pub mod NameLaws
pub mod OwnLaws
pub mod OrderLaws
pub mod SortLaws
