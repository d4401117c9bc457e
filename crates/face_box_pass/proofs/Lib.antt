-- What the proofs of several functions use, and what the promises settle.
pub mod Settled
mod Walks
