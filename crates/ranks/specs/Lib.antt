-- To be believed.
pub mod Rank
