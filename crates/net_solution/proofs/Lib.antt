pub mod Truths
pub mod Reading
pub mod Rising
pub mod Emitting
pub mod Least
pub mod Tallying
pub mod Rounding
