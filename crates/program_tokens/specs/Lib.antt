pub mod Passing
pub mod Source
