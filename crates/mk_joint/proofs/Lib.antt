pub mod Cells
pub mod Factors
pub mod Tables
pub mod Beliefs
pub mod Walked
