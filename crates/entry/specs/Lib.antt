pub mod Run
pub mod Entry
