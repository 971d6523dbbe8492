pub mod Resolved
pub mod Places
pub mod Texts
