pub mod Head
pub mod Table
pub mod Told
