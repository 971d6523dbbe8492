pub mod CompileLaws
pub mod RefusalLaws
