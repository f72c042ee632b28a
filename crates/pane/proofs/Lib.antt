pub mod ConstantLaws
pub mod NumeralLaws
pub mod BoundLaws
pub mod RangeLaws
