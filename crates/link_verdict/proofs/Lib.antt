pub mod StatementWalks
pub mod Interfaces
pub mod Parameters
pub mod PartRows
pub mod TextRows
pub mod CycleLaws
