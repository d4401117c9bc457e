pub mod Activation
