-- To be believed.
pub mod FinishLine
