pub mod Building
pub mod Kinds
pub mod Lifting
pub mod Moving
pub mod Shells
pub mod Splitting
