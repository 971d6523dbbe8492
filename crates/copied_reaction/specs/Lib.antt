pub mod Reacting
pub mod Lawful
