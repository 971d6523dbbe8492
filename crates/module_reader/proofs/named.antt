pub mod Naming
pub mod Layers
pub mod Declarations
pub mod Statements
pub mod Tokens
pub mod Texts
