pub mod Worked
pub mod Sizes
pub mod Order
