-- To be believed.
pub mod Outcome
pub mod Fresnel
pub mod Range
