pub mod Stacks
pub mod Linked
pub mod Layers
pub mod Scopes
pub mod Names
pub mod Labels
pub mod Private
pub mod Trees
