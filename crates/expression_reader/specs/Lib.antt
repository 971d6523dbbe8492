pub mod Terminals
pub mod Trees
pub mod Rules
pub mod Reference
pub mod Refusals
pub mod Cursor
