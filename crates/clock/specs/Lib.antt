pub mod Counts
pub mod Numbers
pub mod Spans
pub mod Timers
pub mod Laws
