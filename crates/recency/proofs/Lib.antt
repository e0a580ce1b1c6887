pub mod Falling
pub mod Moved
pub mod Step
pub mod Recency
pub mod Accepted
pub mod Curve
