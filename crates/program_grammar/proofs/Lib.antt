mod Rows
pub mod Choices
pub mod Complete
pub mod Fewer
pub mod Frames
pub mod Guard
pub mod Knot
pub mod Loops
pub mod One
pub mod Parts
pub mod Sound
pub mod Static
pub mod Words
