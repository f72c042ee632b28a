pub mod FiniteLaws
pub mod NumeralLaws
pub mod TenLaws
