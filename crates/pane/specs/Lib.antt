-- To be believed.
pub mod Factors
pub mod Transmissivity
pub mod Range
