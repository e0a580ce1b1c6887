pub mod Ordered
pub mod Recency
pub mod Curve
