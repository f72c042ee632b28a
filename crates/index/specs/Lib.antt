-- To be believed.
pub mod Index
pub mod Report
-- Inner models of the proofs.
pub mod Searches
pub mod Lent
