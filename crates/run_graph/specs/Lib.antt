pub mod Reach
pub mod Search
pub mod Components
pub mod Callers
pub mod Flood
pub mod Work
