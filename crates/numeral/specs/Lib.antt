-- To be believed.
pub mod Count
pub mod Numeral
-- Inner models of the proofs.
pub mod Powered
pub mod Exactly
