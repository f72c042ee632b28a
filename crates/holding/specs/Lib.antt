-- To be believed.
pub mod Chain
pub mod Shortest
pub mod Mattered
