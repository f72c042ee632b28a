-- To be believed.
pub mod Shown
pub mod List
pub mod Answer
-- Inner models of the proofs.
pub mod Code
