pub mod Assignments
pub mod Operands
pub mod Pending
pub mod Prefixes
pub mod Updates
