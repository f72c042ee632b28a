-- To be believed.
pub mod Cut
pub mod Order
pub mod Rearranged
pub mod Blocks
pub mod Held
-- Inner models of the proofs.
pub mod Layout
