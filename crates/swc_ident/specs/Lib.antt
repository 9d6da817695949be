pub mod Naming
pub mod Steps
pub mod Verdicts
