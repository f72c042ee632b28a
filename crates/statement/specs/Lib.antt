-- Inner models of the proofs.
pub mod States
pub mod Step
pub mod Heads
