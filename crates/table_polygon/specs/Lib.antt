-- To be believed.
pub mod InTable
pub mod Meaning
