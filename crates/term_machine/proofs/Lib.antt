pub mod Tracking
pub mod Fairness
pub mod Numbering
pub mod Touched
pub mod Reactions
pub mod Waiting
pub mod Standing
pub mod Rows
