pub mod Added
pub mod Weighed
