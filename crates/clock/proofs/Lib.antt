pub mod Signed
pub mod Settled
pub mod Sums
