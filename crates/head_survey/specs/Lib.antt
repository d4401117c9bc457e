pub mod Facts
pub mod Pass
