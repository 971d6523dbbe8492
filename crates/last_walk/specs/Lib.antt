pub mod LastWalk
pub mod Whole
