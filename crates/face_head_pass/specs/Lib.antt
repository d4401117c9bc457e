pub mod Judge
pub mod Passed
pub mod Quiet
