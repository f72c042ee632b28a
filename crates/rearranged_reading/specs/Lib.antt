-- To be believed.
pub mod Reader
