-- To be believed.
pub mod OrderLine
pub mod Told
