pub mod Directives
pub mod Codes
