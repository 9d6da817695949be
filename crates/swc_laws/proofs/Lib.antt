mod CoverRows
mod ExceptionRows
mod PedanticRows
mod ReplayRows
pub mod Bindable
pub mod Closed
pub mod Converse
pub mod ConverseLaw
pub mod Cover
pub mod CoverClean
pub mod CoverLaw
pub mod Covered
pub mod Freed
pub mod PedanticTrees
pub mod Privates
pub mod PrivatesKept
pub mod Replay
pub mod Wanted
pub mod Within
