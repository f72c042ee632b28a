-- To be believed.
pub mod Grammar
pub mod Sound
pub mod Refusal
pub mod Laws
