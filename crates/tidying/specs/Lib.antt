-- To be believed.
pub mod Tidy
pub mod Proper
pub mod ReadBack
