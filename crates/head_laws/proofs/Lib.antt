pub mod Inside
pub mod Notices
pub mod Periodic
pub mod Sources
