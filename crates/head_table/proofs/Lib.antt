pub mod Settled
pub mod Taken
