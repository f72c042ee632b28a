-- To be believed.
pub mod ShownLine
