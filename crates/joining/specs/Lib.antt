-- To be believed.
pub mod Definition
pub mod Pick
pub mod Arranged
pub mod Joined
pub mod Outcome
