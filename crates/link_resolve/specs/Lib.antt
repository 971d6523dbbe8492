pub mod Walking
pub mod CalleesAdded
pub mod LinkedTexts
