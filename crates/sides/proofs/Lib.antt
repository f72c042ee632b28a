pub mod SideLaws
pub mod MixedLaws
pub mod FitLaws
pub mod MovedLaws
pub mod KnownLaws
pub mod ExchangeLaws
