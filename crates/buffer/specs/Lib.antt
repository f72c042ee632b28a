-- To be believed.
pub mod Decimal
pub mod Put
