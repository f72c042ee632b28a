-- To be believed.
pub mod Compare
pub mod Next
pub mod NextLine
pub mod Answer
pub mod Exchange
-- Inner models of the proofs.
pub mod Step
pub mod Steps
