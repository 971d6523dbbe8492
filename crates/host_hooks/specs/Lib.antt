pub mod Law
pub mod Promise
pub mod Allowed
pub mod Shipped
pub mod Table
pub mod Stored
pub mod Adding
