pub mod Sorting
pub mod Ordered
pub mod Numbering
