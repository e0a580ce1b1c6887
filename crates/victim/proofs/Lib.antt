pub mod Owed
pub mod Rules
