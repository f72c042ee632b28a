-- To be believed.
pub mod Class
pub mod Fault
pub mod Word
