pub mod Place
pub mod ConstructiveMachine
pub mod Standing
