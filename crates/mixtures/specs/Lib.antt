-- Inner models of the proofs.
pub mod Walk
