-- Inner models of the proofs.
pub mod Code
