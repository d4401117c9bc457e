pub mod Answered
pub mod Calls
pub mod Gate
pub mod Lend
