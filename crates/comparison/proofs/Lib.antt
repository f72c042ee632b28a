pub mod CompareLaws
pub mod RenumberLaws
pub mod ExchangeLaws
pub mod StepLaws
pub mod LineLaws
pub mod HandLaws
