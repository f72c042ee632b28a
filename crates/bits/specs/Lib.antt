-- To be believed.
pub mod Bits
