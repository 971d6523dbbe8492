pub mod Declarations
pub mod Cycles
