pub mod Laws
pub mod Sound
pub mod ByFrame
pub mod Quiet
pub mod Sizes
pub mod Opening
pub mod Epochs
pub mod Listed
