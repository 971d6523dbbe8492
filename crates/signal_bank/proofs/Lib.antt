pub mod Folds
pub mod BagKinds
pub mod Outcomes
