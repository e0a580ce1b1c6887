pub mod Cells
pub mod Held
pub mod Filling
