pub mod Advanced
pub mod Advancing
pub mod Batch
pub mod Holding
pub mod Ids
pub mod Shortening
pub mod Tries
