pub mod Declared
pub mod Shapes
pub mod Keeping
pub mod Room
pub mod Turning
pub mod Killing
pub mod Resetting
pub mod Pumping
