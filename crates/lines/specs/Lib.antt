-- Inner models of the proofs.
pub mod Puts
pub mod Arguments
