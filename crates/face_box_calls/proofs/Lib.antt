-- What the proofs of several functions use, and what the promises settle.
mod Lent
mod Passing
pub mod Settled
