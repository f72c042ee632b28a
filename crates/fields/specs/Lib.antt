-- To be believed.
pub mod Fields
