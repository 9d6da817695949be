pub mod ArrowBegins
pub mod ArrowBodies
pub mod ArrowOrAssign
pub mod ByThemselves
pub mod InnerCalls
pub mod Methods
pub mod PlainKinds
pub mod Recovered
