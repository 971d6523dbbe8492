pub mod Parts
pub mod ExpressionText
pub mod Lines
pub mod NetText
