-- To be believed.
pub mod Both
