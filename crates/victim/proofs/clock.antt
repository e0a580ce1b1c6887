pub mod Falling
pub mod Sweeping
pub mod Laws
