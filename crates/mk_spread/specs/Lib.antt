pub mod Spreads
pub mod Bounds
pub mod Markets
pub mod Laws
pub mod Existing
pub mod Told
pub mod Examples
