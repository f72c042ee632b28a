-- To be believed.
pub mod Sides
pub mod Read
pub mod Exchange
