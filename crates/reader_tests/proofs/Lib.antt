pub mod TestNames
