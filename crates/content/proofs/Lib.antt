pub mod AndLaws
pub mod ContentLaws
