pub mod Evaluating
pub mod Alike
pub mod Doing
pub mod Whole
pub mod Sequences
pub mod Steps
pub mod Stepping
