-- To be believed.
pub mod Polygon
pub mod FromZero
