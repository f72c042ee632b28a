-- To be believed.
pub mod Digits
pub mod Parts
-- Inner models of the proofs.
pub mod Saturated
pub mod Read
