pub mod Laws
pub mod Cutting
pub mod Filling
pub mod Decimal
pub mod Storing
pub mod Round
