-- To be believed.
pub mod Types
pub mod HouseRules
pub mod Statement
pub mod Phase
pub mod Links
pub mod Reading
pub mod Properties
pub mod Record
pub mod Told
pub mod Block
pub mod Exchange
pub mod Archive
pub mod Reason
