pub mod Value
pub mod Sizes
