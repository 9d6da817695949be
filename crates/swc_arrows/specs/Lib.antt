pub mod Answers
pub mod Starts
pub mod Readers
