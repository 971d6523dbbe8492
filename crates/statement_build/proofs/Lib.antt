pub mod Walking
pub mod Sites
pub mod Opening
pub mod Folded
pub mod Declaring
pub mod Chained
pub mod Statements
