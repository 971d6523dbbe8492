pub mod Places
pub mod Merged
pub mod Keeps
pub mod Shares
pub mod Turned
