-- To be believed.
pub mod Written
pub mod Stepped
