-- Inner models of the proofs.
pub mod Order
pub mod Both
pub mod Hands
