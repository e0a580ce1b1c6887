pub mod Laws
pub mod Going
pub mod Running
pub mod Begins
pub mod Stepping
pub mod Counting
pub mod Calling
pub mod Joined
