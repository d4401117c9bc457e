pub mod End
pub mod Spoiled
