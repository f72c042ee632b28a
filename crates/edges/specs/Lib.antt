-- To be believed.
pub mod Corners
pub mod Normal
pub mod Crossing
pub mod BothWays
-- Inner models of the proofs.
pub mod Code
