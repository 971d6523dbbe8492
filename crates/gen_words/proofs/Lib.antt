pub mod TwoOptions
pub mod Taken
