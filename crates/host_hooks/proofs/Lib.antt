pub mod Answering
pub mod Propositions
pub mod Sameness
pub mod Tables
