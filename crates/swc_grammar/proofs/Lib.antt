mod ArrowRows
mod AsyncRows
mod ForHeadRows
mod MethodRows
mod Parts
mod PatternRows
mod Refused
mod Rows
pub mod Answers
pub mod Binds
pub mod Blocks
pub mod Bodies
pub mod Complete
pub mod Computed
pub mod Cut
pub mod Direct
pub mod Firsts
pub mod ForHeads
pub mod Good
pub mod Head
pub mod Induct
pub mod Kept
pub mod Knot
pub mod Levels
pub mod Literals
pub mod MarkedBinds
pub mod Marks
pub mod Meets
pub mod Members
pub mod MethodBinds
pub mod Names
pub mod One
pub mod Only
pub mod Openings
pub mod Quiet
pub mod Related
pub mod Rules
pub mod Shapes
pub mod Soft
pub mod Sound
pub mod Texts
