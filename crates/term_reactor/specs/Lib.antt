pub mod Ending
pub mod Standing
pub mod Seen
