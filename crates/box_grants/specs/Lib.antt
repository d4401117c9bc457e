pub mod Activation
pub mod Keeps
pub mod Laws
pub mod Listed
pub mod Nearest
pub mod Sifting
pub mod Sound
pub mod Walk
