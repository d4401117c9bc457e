pub mod Asked
pub mod Asking
pub mod Laws
pub mod Listed
pub mod Numbers
pub mod Queues
pub mod Words
