pub mod Pool
pub mod Sound
pub mod ForCode
