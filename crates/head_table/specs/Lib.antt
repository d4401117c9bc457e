pub mod Events
pub mod Laws
pub mod Output
