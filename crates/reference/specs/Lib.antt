pub mod Search
pub mod Logs
pub mod Reference
pub mod ForCode
