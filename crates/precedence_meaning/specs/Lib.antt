-- To be believed.
pub mod Meaning
