pub mod Forms
pub mod Renaming
pub mod Building
pub mod Shapes
pub mod Steps
pub mod Levels
pub mod Declarations
