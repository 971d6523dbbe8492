pub mod Bytes
pub mod Keyword
pub mod Literal
pub mod Name
pub mod Queue
pub mod Text
pub mod Value
