pub mod States
pub mod InitialWeight
pub mod Events
pub mod Ratios
pub mod OfNetwork
pub mod Shares
pub mod Lawful
