pub mod Amend
pub mod Quote
