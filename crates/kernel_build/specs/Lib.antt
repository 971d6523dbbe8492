pub mod Refusing
pub mod Whole
pub mod Writing
