pub mod Keeping
pub mod Layers
pub mod Nodes
pub mod Expressions
pub mod Brackets
