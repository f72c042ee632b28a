-- To be believed.
pub mod Outcome
pub mod Ahead
pub mod Shape
pub mod Sphere
pub mod Plane
pub mod Ring
pub mod Larger
pub mod FromZero
