pub mod Block
pub mod Judged
pub mod Judging
pub mod Laws
pub mod Passes
pub mod Passing
pub mod Until
