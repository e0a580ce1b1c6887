pub mod Choice
pub mod Lru
pub mod Clock
pub mod Watt
pub mod Rules
pub mod ForCode
