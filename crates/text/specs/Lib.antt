pub mod Text
pub mod ForCode
