pub mod Answers
pub mod Arrays
pub mod Loops
pub mod Objects
pub mod Params
pub mod ParamsRead
pub mod RestFaults
pub mod Rests
