-- To be believed.
pub mod Listing
