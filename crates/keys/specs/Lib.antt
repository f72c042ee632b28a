-- To be believed.
pub mod Key
pub mod Rows
pub mod After
pub mod Scan
pub mod Properties
-- Inner models of the proofs.
pub mod Next
