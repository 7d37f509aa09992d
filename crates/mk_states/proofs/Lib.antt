pub mod Sums
pub mod Listed
pub mod Shares
pub mod Alike
