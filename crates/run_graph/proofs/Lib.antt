pub mod Members
pub mod ComponentLemmas
pub mod WorkLemmas
pub mod SearchRuns
pub mod CallersLemmas
pub mod FloodLemmas
pub mod RootLemmas
pub mod SearchSteps
