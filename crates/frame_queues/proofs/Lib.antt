pub mod Fitting
pub mod Listed
pub mod Settled
pub mod Vectors
