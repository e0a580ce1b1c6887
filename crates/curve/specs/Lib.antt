pub mod Curve
pub mod ForCode
