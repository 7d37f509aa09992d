pub mod Scopes
pub mod Cores
pub mod Split
pub mod Starts
pub mod Shaped
pub mod Laid
pub mod Required
