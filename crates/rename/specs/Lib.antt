pub mod Renamed
pub mod Sameness
pub mod Needed
pub mod Calls
pub mod Composed
pub mod Images
