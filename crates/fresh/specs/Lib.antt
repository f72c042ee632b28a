-- To be believed.
pub mod Fresh
