-- To be believed.
pub mod Moved
pub mod ReadBack
