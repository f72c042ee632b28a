-- To be believed.
pub mod Answer
-- Inner models of the proofs.
pub mod Settled
