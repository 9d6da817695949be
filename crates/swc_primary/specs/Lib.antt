pub mod Begins
pub mod Methods
pub mod Openings
pub mod Properties
