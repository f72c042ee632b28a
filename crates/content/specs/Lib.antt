-- To be believed.
pub mod Content
pub mod Scene
