-- Examples.
pub mod Samples
