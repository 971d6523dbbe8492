pub mod Arguments
pub mod Unruled
pub mod AllFit
