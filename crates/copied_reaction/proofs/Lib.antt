pub mod News
pub mod Numbering
pub mod Solving
pub mod Answering
pub mod Whole
pub mod Rows
