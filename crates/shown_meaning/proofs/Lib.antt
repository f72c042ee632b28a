pub mod MeaningLaws
pub mod ExchangeLaws
