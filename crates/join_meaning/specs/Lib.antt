-- Inner models of the proofs.
pub mod Kept
pub mod Meant
pub mod Matched
pub mod Rows
pub mod Written
