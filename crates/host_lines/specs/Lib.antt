-- To be believed.
pub mod Host
pub mod Ordered
