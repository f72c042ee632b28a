-- Inner models of the proofs.
pub mod Scan
pub mod Pieces
