pub mod Kept
pub mod Passes
