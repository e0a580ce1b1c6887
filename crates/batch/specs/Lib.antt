pub mod Taken
pub mod Batch
pub mod ForCode
