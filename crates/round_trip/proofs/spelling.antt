pub mod Blanks
pub mod Bytes
pub mod Lines
pub mod Words
pub mod Expressions
pub mod Declarations
pub mod Statements
pub mod Printed
