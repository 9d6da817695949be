pub mod Parts
pub mod Patterns
pub mod Pedantic
pub mod Spans
pub mod Targets
pub mod Tree
pub mod TreeOf
pub mod Trees
