pub mod BagKind
pub mod Outcome
pub mod AnyOrder
pub mod Truth
