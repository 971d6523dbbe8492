pub mod LegalLogs
pub mod DeskLaws
pub mod Finals
pub mod Opens
