-- To be believed.
pub mod Question
pub mod View
pub mod Number
