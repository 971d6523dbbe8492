pub mod Told
pub mod Reacting
