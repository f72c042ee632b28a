-- To be believed.
pub mod Meaning
pub mod Exchange
