-- To be believed.
pub mod Answer
pub mod Paired
pub mod Exchange
pub mod Links
pub mod Archive
pub mod Lines
pub mod Indexed
