-- To be believed.
pub mod Sorted
pub mod Sorts
