-- To be believed.
pub mod Call
