pub mod Counting
pub mod Judging
