pub mod Strictness
pub mod Faults
pub mod Declarations
