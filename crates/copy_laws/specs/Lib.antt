pub mod Agreeing
pub mod Lawful
pub mod Stepping
