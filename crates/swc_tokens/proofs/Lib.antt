pub mod Ascii
pub mod Blanks
pub mod Marks
pub mod Moved
pub mod Nesting
pub mod Order
pub mod Reading
pub mod Spelling
