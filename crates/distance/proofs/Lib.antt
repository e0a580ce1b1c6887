pub mod Stack
pub mod Places
pub mod Fewer
pub mod Renaming
