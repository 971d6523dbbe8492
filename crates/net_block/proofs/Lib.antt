mod Growing
mod Merging
mod Rowing
mod Siting
mod Examples
