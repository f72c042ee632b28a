pub mod HandsLaws
