pub mod Layout
pub mod Encode
pub mod Check
pub mod Answer
