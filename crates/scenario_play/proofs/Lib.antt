pub mod Puts
pub mod PlayLaws
pub mod LineLaws
pub mod LoopLaws
