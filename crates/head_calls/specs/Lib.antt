pub mod Clearing
pub mod Fresh
pub mod Serve
