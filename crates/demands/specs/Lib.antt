pub mod First
pub mod Second
pub mod Third
pub mod Worked
pub mod Carried
pub mod Curve
pub mod Memory
