pub mod Growing
