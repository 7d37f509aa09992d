pub mod Below
pub mod Walk
pub mod Counts
pub mod Cliques
pub mod File
pub mod MarketOf
pub mod Faults
pub mod inner
