-- To be believed.
pub mod Graph
pub mod Paths
pub mod Answers
