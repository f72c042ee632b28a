pub mod ClassLaws
pub mod PairLaws
pub mod TiedLaws
