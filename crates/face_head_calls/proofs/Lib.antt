pub mod Settled
mod Words
