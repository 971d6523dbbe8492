pub mod Adding
pub mod Unsettled
pub mod Taking
pub mod Desks
pub mod Closing
