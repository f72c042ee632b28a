pub mod EdgeLaws
pub mod HitLaws
pub mod ZeroLaws
