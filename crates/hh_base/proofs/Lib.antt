pub mod Keywords
pub mod Integers
pub mod Queues
pub mod Quotes
pub mod Utf8
