pub mod Engines
pub mod Picks
pub mod Values
