pub mod Store
pub mod Kept
pub mod Moments
pub mod Opening
pub mod Market
pub mod Keepers
pub mod inner
pub mod Laws
