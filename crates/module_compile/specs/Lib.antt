pub mod FaultForms
pub mod Compiling
