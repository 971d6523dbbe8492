pub mod Trees
pub mod Rules
pub mod Reference
pub mod FaultWord
pub mod Refusals
pub mod Reading
