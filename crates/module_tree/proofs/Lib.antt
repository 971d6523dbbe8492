pub mod DeclaredAt
