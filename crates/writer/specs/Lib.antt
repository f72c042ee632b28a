-- To be believed.
pub mod Answer
pub mod Again
-- Inner models of the proofs.
pub mod Left
