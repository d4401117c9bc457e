pub mod Claims
pub mod Folds
pub mod Laws
