pub mod Distance
pub mod Recent
pub mod ForCode
