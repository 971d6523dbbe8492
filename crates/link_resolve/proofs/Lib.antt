pub mod Resolving
pub mod Adding
pub mod ResolvedRuns
pub mod LinkedTrees
pub mod ModuleParts
