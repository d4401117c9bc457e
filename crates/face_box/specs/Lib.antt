pub mod Box
pub mod Laws
pub mod Laying
pub mod Listing
pub mod Told
