pub mod Message
pub mod Tells
pub mod Laws
