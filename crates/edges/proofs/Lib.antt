pub mod CrossLaws
pub mod CodeLaws
