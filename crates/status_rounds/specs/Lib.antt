pub mod Loops
pub mod Given
pub mod Before
pub mod Rounds
pub mod NothingKnown
pub mod Settled
