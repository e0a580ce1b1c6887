pub mod Moving
pub mod Counting
pub mod Called
