pub mod Layers
pub mod Declarations
pub mod Delays
pub mod Statements
pub mod Texts
