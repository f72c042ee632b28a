-- Inner models of the proofs.
pub mod Packed
