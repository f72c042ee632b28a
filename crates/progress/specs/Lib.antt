-- Inner models of the proofs.
pub mod Image
pub mod Invariant
pub mod Goes
