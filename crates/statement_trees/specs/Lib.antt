pub mod Contexts
pub mod Passes
