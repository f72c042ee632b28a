-- To be believed.
pub mod NameLine
