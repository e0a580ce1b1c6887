pub mod Laws
pub mod Back
pub mod Again
pub mod Undo
