-- To be believed.
pub mod Step
pub mod Vectors
