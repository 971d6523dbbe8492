pub mod Tokens
pub mod Fault
pub mod Parser
pub mod Language
pub mod Texts
pub mod Refusals
