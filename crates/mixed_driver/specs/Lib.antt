-- To be believed.
pub mod Paired
