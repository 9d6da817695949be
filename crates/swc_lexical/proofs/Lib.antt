pub mod Runs
pub mod Chars
pub mod Rows
pub mod Escapes
pub mod Meanings
