-- To be believed.
pub mod Nearest
