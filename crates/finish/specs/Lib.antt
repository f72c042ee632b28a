-- To be believed.
pub mod Finish
pub mod Question
pub mod Walk
pub mod Meaning
pub mod Answer
-- Inner models of the proofs.
pub mod Follow
