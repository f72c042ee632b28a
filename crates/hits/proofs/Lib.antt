pub mod ShapeLaws
pub mod LeastLaws
pub mod ZeroLaws
pub mod LargerLaws
