-- What the proofs of several functions use, that the loops find what the page says, and what the promises settle.
pub mod Heads
pub mod Links
pub mod Page
pub mod Passing
pub mod Settled
pub mod Turns
