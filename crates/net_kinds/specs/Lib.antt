pub mod LinesFit
