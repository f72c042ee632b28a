-- To be believed.
pub mod Order
pub mod Answer
pub mod Answered
-- Inner models of the proofs.
pub mod Code
