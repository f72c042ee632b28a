pub mod ClassLaws
pub mod SameLaws
pub mod WordLaws
pub mod CheckedLaws
