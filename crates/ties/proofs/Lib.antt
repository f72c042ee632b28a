pub mod ClassLaws
pub mod HeldLaws
