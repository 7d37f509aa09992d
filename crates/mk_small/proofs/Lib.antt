pub mod Walk
pub mod Weights
