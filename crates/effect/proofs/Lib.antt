pub mod Ways
pub mod Settled
pub mod Placed
pub mod Making
pub mod Works
pub mod Dirty
pub mod Kept
pub mod Answers
