pub mod Chain
pub mod Page
pub mod Sets
pub mod Gate
pub mod Settled
