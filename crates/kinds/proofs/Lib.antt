pub mod CountLaws
pub mod HouseLaws
