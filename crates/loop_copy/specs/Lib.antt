pub mod Renaming
pub mod Copies
pub mod IsCopied
pub mod CopiedView
pub mod Within
pub mod Stands
pub mod Lawful
pub mod Numbered
