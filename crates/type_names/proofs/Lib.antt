pub mod NameLaws
pub mod PackLaws
