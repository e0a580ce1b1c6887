pub mod Run
pub mod Laws
pub mod Round
