pub mod Rows
pub mod Tally
pub mod ForCode
