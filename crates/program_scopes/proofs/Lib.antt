pub mod Bytes
pub mod Founds
pub mod Stacks
pub mod Layered
pub mod Opened
pub mod ByTree
