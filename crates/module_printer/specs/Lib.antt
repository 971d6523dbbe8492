pub mod ExpressionTokens
pub mod SourceTokens
pub mod Printed
