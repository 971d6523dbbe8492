pub mod Question
pub mod Seen
pub mod Equations
pub mod Solution
pub mod Places
pub mod Tallied
pub mod Rounds
