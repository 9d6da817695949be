pub mod Bases
pub mod Counted
pub mod Links
pub mod Templates
