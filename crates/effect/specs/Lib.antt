pub mod Record
pub mod ForCode
