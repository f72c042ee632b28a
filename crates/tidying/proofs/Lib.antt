pub mod WordLaws
pub mod CountLaws
pub mod ProperLaws
pub mod StatementLaws
pub mod ReadBackLaws
