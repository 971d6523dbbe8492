pub mod Kinds
pub mod Entering
pub mod Running
pub mod Effects
pub mod Changes
pub mod Places
