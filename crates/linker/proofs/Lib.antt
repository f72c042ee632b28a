pub mod TableLaws
pub mod EnteredLaws
