pub mod Lexemes
pub mod spelling
pub mod lifting
pub mod Trips
