pub mod Lines
pub mod Sample
pub mod Examples
pub mod Bounds
pub mod inner
