-- To be believed.
pub mod Lines
pub mod Lent
pub mod Compared
-- Inner models of the proofs.
pub mod Turn
pub mod Turns
