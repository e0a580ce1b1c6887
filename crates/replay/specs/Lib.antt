pub mod Replay
pub mod Calls
pub mod ForCode
