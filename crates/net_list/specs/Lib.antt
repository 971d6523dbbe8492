pub mod Expressions
pub mod Lookup
pub mod Form
pub mod Range
pub mod Kinds
pub mod IsNets
