pub mod Parts
pub mod Written
pub mod Codes
pub mod Block
pub mod Circuit
pub mod Drawn
