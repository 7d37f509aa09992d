pub mod Points
pub mod Homes
pub mod Trading
pub mod Suited
pub mod inner
