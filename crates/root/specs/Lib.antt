-- To be believed.
pub mod Root
pub mod Largest
-- Inner models of the proofs.
pub mod Digits
