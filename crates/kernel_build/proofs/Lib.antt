pub mod Refusing
pub mod Accepting
pub mod Branches
pub mod Gathered
pub mod Written
pub mod Descending
