pub mod Doubled
pub mod Left
pub mod Firsts
pub mod Named
pub mod Undecided
pub mod Counting
pub mod OneByOne
pub mod Answering
