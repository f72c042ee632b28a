-- To be believed.
pub mod Grouped
pub mod Keeps
-- Inner models of the proofs.
pub mod Code
