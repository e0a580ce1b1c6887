pub mod Replacement
pub mod Clock
pub mod Watt
pub mod Settled
pub mod Limits
pub mod Ruled
