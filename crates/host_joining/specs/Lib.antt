-- To be believed.
pub mod Host
