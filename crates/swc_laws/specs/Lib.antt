pub mod Bound
pub mod Converse
pub mod Covering
pub mod Replay
