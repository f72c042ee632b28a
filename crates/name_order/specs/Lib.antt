-- To be believed.
pub mod Sort
-- Inner models of the proofs.
pub mod Merge
