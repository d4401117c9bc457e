pub mod Stamped
