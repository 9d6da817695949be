pub mod Bases
pub mod Chains
pub mod Counted
pub mod Links
pub mod NextLink
pub mod Templates
