pub mod Truths
pub mod Trees
pub mod Misfits
pub mod Bytes
pub mod Information
pub mod Evaluating
pub mod Reordered
pub mod EvaluationRows
