pub mod Calls
pub mod Captured
pub mod Emits
pub mod Ends
pub mod Kept
pub mod Refusals
