-- To be believed.
pub mod Lines
