-- To be believed.
pub mod Words
