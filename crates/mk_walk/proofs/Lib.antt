pub mod Rows
pub mod Weights
pub mod Listed
pub mod Totals
pub mod Leasts
