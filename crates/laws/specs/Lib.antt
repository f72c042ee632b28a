-- To be believed.
pub mod Bytes
pub mod Runs
pub mod Shuffle
-- Inner models of the proofs.
pub mod Table
